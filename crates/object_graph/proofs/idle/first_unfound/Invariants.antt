use Rattle.std.proofs.Common.{ℕ, ◌<◌}
use Rattle.region_shape.specs.Regions.{environment_of}
use Rattle.object_graph.specs.Idle.{AreReachedOf}
use Rattle.object_graph.proofs.idle.first_unfound.Given as goal

abbrev pub invariant-loop-class : goal.invariant-loop-class
invariant-loop-class l = (d : ℕ) → d < l.class → AreReachedOf l.program (environment_of l.regions) d
