use Rattle.use_graph.specs.steps.Deeds.{HoldsOfOne}
use Rattle.audit.specs.steps.Reaching.{IsFirstVertex}
use Rattle.use_graph.proofs.BodiesLemmas.{from_none}
use Rattle.audit.proofs.starts.first_vertices.Goals as goal

pub returns : goal.returns
returns c =
    from_none c.new-from.result.items c.add_entries.new.from.items
    (HoldsOfOne (IsFirstVertex c.args.program.now c.args.uses.now) c.args.entries.now) c.new-from.ensures.items
    c.in_ok-add_entries.ensures
