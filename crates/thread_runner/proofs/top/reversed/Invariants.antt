use Rattle.std.proofs.Common.{◌≡◌, ◌++◌, length}
use Rattle.std.specs.Prelude.{reverse}
use Rattle.thread_runner.proofs.top.reversed.Given as goal

abbrev pub invariant-reversing : goal.invariant-reversing
invariant-reversing l = reverse l.left ++ l.reversed ≡ reverse l.fn.frames

abbrev pub decreases-reversing : goal.decreases-reversing
decreases-reversing l = length l.left
