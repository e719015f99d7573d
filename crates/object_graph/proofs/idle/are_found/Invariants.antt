use Rattle.object_graph.specs.steps.Places.{AreFound}
use Rattle.object_graph.proofs.idle.are_found.Given as goal

abbrev pub invariant-loop-index : goal.invariant-loop-index
invariant-loop-index l = AreFound l.found l.class l.index
