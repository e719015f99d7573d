use Rattle.std.proofs.Common.{◌≤◌, length}
use Rattle.initializer_analysis.specs.steps.Raised.{AreRaisedFrom}
use Rattle.initializer_analysis.proofs.flagged_heights.raise_all.Given as goal

abbrev pub invariant-loop-place : goal.invariant-loop-place
invariant-loop-place l = record {
  small : l.place ≤ length l.components.order;
  raised : AreRaisedFrom l.graph l.components l.flagged l.place l.heights;
}

abbrev pub decreases-loop-place : goal.decreases-loop-place
decreases-loop-place l = l.place
