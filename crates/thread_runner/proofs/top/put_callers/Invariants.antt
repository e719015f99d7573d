use Rattle.std.proofs.Common.{◌≡◌, ◌+◌, ◌++◌, drop, length}
use Rattle.std.specs.Prelude.{reverse}
use Rattle.thread_runner.proofs.top.put_callers.Given as goal

abbrev pub invariant-putting : goal.invariant-putting
invariant-putting l = (reverse l.left ++ l.callers ≡ reverse l.fn.outermost ++ l.fn.callers)
    × (drop l.count l.callers ≡ l.fn.callers) × (l.count + length l.left ≡ length l.fn.outermost)

abbrev pub decreases-putting : goal.decreases-putting
decreases-putting l = length l.left
