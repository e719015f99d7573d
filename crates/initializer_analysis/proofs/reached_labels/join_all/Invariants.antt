use Rattle.std.proofs.Common.{◌≤◌, length}
use Rattle.initializer_analysis.specs.steps.Joined.{AreJoinedFrom}
use Rattle.initializer_analysis.proofs.reached_labels.join_all.Given as goal

abbrev pub invariant-loop-place : goal.invariant-loop-place
invariant-loop-place l = record {
  small : l.place ≤ length l.components.order;
  joined : AreJoinedFrom l.graph l.components l.own l.place l.table;
}

abbrev pub decreases-loop-place : goal.decreases-loop-place
decreases-loop-place l = l.place
