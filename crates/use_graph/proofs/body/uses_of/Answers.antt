use Rattle.use_graph.proofs.BodiesLemmas.{are_uses_of}
use Rattle.use_graph.proofs.body.uses_of.Goals as goal

pub returns-clause-uses : goal.returns-clause-uses
returns-clause-uses c =
    are_uses_of c.args.program.now c.args.deeds.now c.new-needs.result.items c.new-told.result.items
    c.add_needs.new.needs c.add_all_told.new.told c.new-needs.ensures.items c.new-told.ensures.items
    c.in_ok-add_needs.ensures c.in_ok-add_all_told.ensures.told
