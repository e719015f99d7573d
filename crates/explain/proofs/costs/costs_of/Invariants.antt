use Rattle.std.proofs.Common.{◌≡◌, length}
use Rattle.region_shape.specs.Regions.{environment_of}
use Rattle.explain.specs.steps.FirstCosts.{AreFirstCosts}
use Rattle.explain.proofs.costs.costs_of.Given as goal

abbrev pub invariant-loop-class : goal.invariant-loop-class
invariant-loop-class l = record {
  same : environment_of l.regions ≡ environment_of l.image.regions;
  count : length l.costs.items ≡ l.class;
  each : AreFirstCosts l.image l.verdicts l.budget l.class l.costs.items;
}
