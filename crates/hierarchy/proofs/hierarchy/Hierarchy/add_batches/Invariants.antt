use Rattle.std.proofs.Common.{◌≤◌, ◌-◌, length}
use Rattle.hierarchy.specs.steps.Groups.{AreWays}
use Rattle.hierarchy.specs.steps.FoundAhead.{AreAhead}
use Rattle.hierarchy.proofs.hierarchy.Hierarchy.add_batches.Given as goal

abbrev pub invariant-loop-start : goal.invariant-loop-start
invariant-loop-start l = record {
  within : l.start ≤ length l.asked;
  ways : AreWays l.self.family l.ways;
  found : AreAhead l.kind l.self l.found;
}

abbrev pub decreases-loop-start : goal.decreases-loop-start
decreases-loop-start l = length l.asked - l.start
