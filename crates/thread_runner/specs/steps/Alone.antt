-- What a thread does that runs on alone in the world of a history.
use Rattle.std.specs.Prelude.{◌≡◌, ℕ, ◌+◌, ◌<◌, ◌++◌, length, replicate}
use Rattle.program.specs.Tables.{Tables}
use Rattle.method_lowering.specs.steps.StepTables.{Kept, KeepsSteps}
use Rattle.init_engine.specs.Schedules.{schedule_of}
use Rattle.thread_runner.specs.Kept.{Grows, Past, steps_of}

-- thread t is there and may make so many steps, over the steps of the program that are kept
pub record CanRunOn (own P : Tables) (h : Past) (t steps : ℕ) (kept : Kept) : Type 0 where
  pub program : P ≡ own
  pub thread : t < length h.world.threads
  pub keeps : KeepsSteps P kept
  pub room : steps_of h + steps < h.limit + 1024

-- so many steps of thread t more; that they lead from the one world to the other the history keeps
pub record RunsOn (t : ℕ) (old new : Past) (made : ℕ) : Type 0 where
  pub journal : schedule_of new.journal ≡ schedule_of old.journal ++ replicate made t
  pub grows : Grows old.world.printed new.world.printed
  pub threads : length new.world.threads ≡ length old.world.threads
  pub limit : new.limit ≡ old.limit
