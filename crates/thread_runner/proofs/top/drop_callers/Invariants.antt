use Rattle.std.proofs.Common.{◌≡◌, drop}
use Rattle.thread_runner.proofs.top.drop_callers.Given as goal

abbrev pub invariant-loop-dropped : goal.invariant-loop-dropped
invariant-loop-dropped l = l.callers ≡ drop l.dropped l.fn.callers
