use Rattle.region_shape.specs.Regions.{environment_of}
use Rattle.explain.specs.steps.Others.{AreFirst}
use Rattle.explain.proofs.reruns.all_regions.Given as goal

abbrev pub invariant-loop-class : goal.invariant-loop-class
invariant-loop-class l = AreFirst (environment_of l.image.regions) l.class (environment_of l.regions)
