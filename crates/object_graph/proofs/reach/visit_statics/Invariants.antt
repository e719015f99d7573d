use Rattle.place_set.specs.steps.Adds.{Adds}
use Rattle.object_graph.proofs.PlaceLemmas.{IsInStaticsBelow}
use Rattle.object_graph.proofs.reach.visit_statics.Given as goal

abbrev pub invariant-loop-class : goal.invariant-loop-class
invariant-loop-class l = Adds l.fn.found (IsInStaticsBelow l.program l.regions l.class) l.found
