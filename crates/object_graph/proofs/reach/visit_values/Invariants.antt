use Rattle.std.proofs.Common.{take}
use Rattle.place_set.specs.steps.Adds.{Adds}
use Rattle.object_graph.specs.steps.Places.{HoldPlace}
use Rattle.object_graph.proofs.reach.visit_values.Given as goal

abbrev pub invariant-loop-slot : goal.invariant-loop-slot
invariant-loop-slot l = Adds l.fn.found (HoldPlace l.regions (take l.slot l.slots)) l.found
