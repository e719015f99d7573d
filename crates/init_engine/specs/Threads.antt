-- Threads as the definition has them.
use Rattle.std.specs.Prelude.{◌≡◌, ℕ}
use Rattle.semantics.specs.Steps.{Thread as DefinedThread, Ended as HasEnded}
use Rattle.vm_state.specs.declared.ends.Ending.{Ending}
use Rattle.semantics.specs.Worlds.{ending}
use Rattle.machine.specs.Effects.{going}
use Rattle.init_engine.specs.declared.world.Thread.{Thread}
use Rattle.init_engine.specs.declared.world.Thread.TheVariants.{Going, Ended}

abbrev pub thread_of : Thread → DefinedThread
thread_of (Going s) = going s
thread_of (Ended end) = HasEnded end

-- what is seen of a thread
unfoldable pub seen_of : Thread → Ending
seen_of t = ending (thread_of t)

-- the stack of a thread that is going has the thread's number
abbrev pub HasNumber : Thread → ℕ → Type 0
HasNumber (Going s) t = s.thread ≡ t
HasNumber (Ended end) t = Unit {0}
