use Rattle.std.proofs.Common.{◌<◌, length}
use Rattle.std.specs.Prelude.{IfSome}
use Rattle.thread_runner.proofs.last.last_going.Given as goal

abbrev pub invariant-loop-thread : goal.invariant-loop-thread
invariant-loop-thread l = IfSome l.last (λ t. t < length l.world.threads)
