use Rattle.std.proofs.Common.{◌≡◌, ℕ, ◌+◌, ◌-◌, ◌<◌, ◌≤◌}
use Rattle.machine.specs.Linked.{program_of}
use Rattle.region_shape.specs.Regions.{environment_of}
use Rattle.explain.specs.Reruns.{CostsMore}
use Rattle.explain.proofs.reruns.least_budget.Given as goal

abbrev pub invariant-loop-low : goal.invariant-loop-low
invariant-loop-low l = record {
  within : l.low ≤ l.high;
  most : l.high ≤ l.greatest;
  enough : l.high < l.greatest → ¬ CostsMore (program_of l.program) (environment_of l.regions) l.class l.high;
  least : (less : ℕ) → l.low ≡ less + 1 → CostsMore (program_of l.program) (environment_of l.regions) l.class less;
}

abbrev pub decreases-loop-low : goal.decreases-loop-low
decreases-loop-low l = l.high - l.low
