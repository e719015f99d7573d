use Rattle.region_shape.specs.Regions.{environment_of}
use Rattle.explain.specs.Reruns.{without}
use Rattle.explain.specs.steps.Others.{AreFirst}
use Rattle.explain.proofs.reruns.other_regions.Given as goal

abbrev pub invariant-loop-other : goal.invariant-loop-other
invariant-loop-other l =
    AreFirst (without (environment_of l.image.regions) l.class) l.other (environment_of l.regions)
