-- Where the threads of a run stood before their last steps.
use Rattle.std.specs.Prelude.{◌≡◌, ℕ, ◌+◌, ◌<◌, ◌++◌, List, Option, Some, replicate, slice_get, take}
use Rattle.vm_state.specs.declared.initialization.Frames.{Frames}
use Rattle.semantics.specs.Programs.{Program}
use Rattle.semantics.specs.Worlds.{World, Run}
use Rattle.init_engine.specs.Schedules.{schedule_of}
use Rattle.init_engine.specs.Stacks.{AreFrames}

-- The frames of thread t before its last step, where a schedule of these runs begins in a world: the schedule up to
-- that step leads to a world in which the thread has them.
pub record StoodBefore (P : Program) (first : World) (runs : List (ℕ × ℕ)) (t : ℕ) (s : Frames) : Type 0 where
  pub place : ℕ
  pub steps : ℕ
  pub here : slice_get runs place ≡ Some (t, steps + 1)
  pub last : (later n : ℕ) → place < later → ¬ (slice_get runs later ≡ Some (t, n))
  pub world : World
  pub run : Run P first (schedule_of (take place runs) ++ replicate steps t) world
  pub frames : AreFrames world t s

-- these are the frames of each thread that made a step, before its last one
abbrev pub AreBefore : Program → World → List (ℕ × ℕ) → List (Option Frames) → Type 0
AreBefore P first runs before =
    (t n place : ℕ) → slice_get runs place ≡ Some (t, n)
    → (s : Frames) × (slice_get before t ≡ Some (Some s)) × StoodBefore P first runs t s
