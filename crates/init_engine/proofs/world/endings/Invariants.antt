use Rattle.std.proofs.Common.{◌≡◌, map, take}
use Rattle.init_engine.specs.Threads.{seen_of}
use Rattle.init_engine.proofs.world.endings.Given as goal

abbrev pub invariant-loop-thread : goal.invariant-loop-thread
invariant-loop-thread l = l.endings.items ≡ map seen_of (take l.thread-index l.threads)
