use Rattle.std.proofs.lemmas.Result.{on_ok_weaker}
use Rattle.object_graph.proofs.PlaceLemmas.{object_holds, holds_nothing}
use Rattle.object_graph.proofs.reach.visit_object.Goals as goal

pub returns-in-Some-clause-added : goal.returns-in-Some-clause-added
returns-in-Some-clause-added c =
    on_ok_weaker c.visit_slots.result
    (object_holds c.args.regions.now c.args.place c.in-Some.held.0 c.in-Some.held.1.now c.args.found.now
    c.visit_slots.new.found c.in-Some.ensures.value)
    c.visit_slots.ensures

pub returns-in-None-clause-added : goal.returns-in-None-clause-added
returns-in-None-clause-added c =
    holds_nothing c.args.regions.now c.args.place c.args.found.now c.in-None.ensures.value
