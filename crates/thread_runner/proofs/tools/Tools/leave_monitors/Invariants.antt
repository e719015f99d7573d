use Rattle.std.proofs.Common.{◌≤◌}
use Rattle.thread_runner.proofs.tools.Tools.leave_monitors.Given as goal

abbrev pub invariant-slices : goal.invariant-slices
invariant-slices g l = l.left ≤ l.most

abbrev pub decreases-slices : goal.decreases-slices
decreases-slices g l = l.left
