use Rattle.std.proofs.Common.{◌≤◌, ◌-◌, length}
use Rattle.hierarchy.proofs.hierarchy.Hierarchy.batch_length.Given as goal

abbrev pub invariant-loop-count : goal.invariant-loop-count
invariant-loop-count l = l.count ≤ length l.asked

abbrev pub decreases-loop-count : goal.decreases-loop-count
decreases-loop-count l = length l.asked - l.count
