use Rattle.initializer_analysis.specs.steps.Dependence.{IsVertexOf}
use Rattle.audit.specs.steps.Reaching.{IsMainVertex}
use Rattle.audit.proofs.PlacesLemmas.{added_twice}
use Rattle.audit.proofs.starts.add_entry.Goals as goal

pub returns : goal.returns
returns c =
    added_twice c.args.from.now.items c.add_class.new.from.items c.add_main.new.from.items
    (IsVertexOf c.args.program.now c.args.uses.now c.args.entry)
    (IsMainVertex c.args.program.now c.args.uses.now.methods c.args.entry) c.in_ok-add_class.ensures
    c.in_ok-add_main.ensures
