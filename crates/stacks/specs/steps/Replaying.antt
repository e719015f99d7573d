-- What is kept while a schedule is gone through.
use Rattle.std.specs.Prelude.{◌≡◌, ℕ, ◌+◌, ◌-◌, ◌<◌, ◌≤◌, ◌++◌, Bool, true, false, List, Option, Some, length}
use Rattle.std.specs.Prelude.{replicate, slice_get, slice_set, take}
use Rattle.vm_state.specs.declared.initialization.Frames.{Frames}
use Rattle.semantics.specs.Programs.{Program}
use Rattle.semantics.specs.Worlds.{World, Run}
use Rattle.init_engine.specs.Schedules.{schedule_of}
use Rattle.init_engine.specs.Stacks.{AreFrames}

-- of each thread with a run the place of its last one
abbrev pub AreLastBelow : ℕ → List (ℕ × ℕ) → List ℕ → Type 0
AreLastBelow p runs last =
    (t n i : ℕ) → i < p → slice_get runs i ≡ Some (t, n) → t < length last
    → (j : ℕ) × (i ≤ j) × (slice_get last t ≡ Some j) × ((m : ℕ) × (slice_get runs j ≡ Some (t, m)))

abbrev pub AreLast : List (ℕ × ℕ) → List ℕ → Type 0
AreLast runs last = AreLastBelow (length runs) runs last

-- the frames of thread t before the last of so many steps of it
pub record StoodIn (P : Program) (w : World) (t steps : ℕ) (s : Frames) : Type 0 where
  pub world : World
  pub run : Run P w (replicate (steps - 1) t) world
  pub frames : AreFrames world t s

-- they are kept of a thread's last run
abbrev pub IsKept : Program → World → ℕ → ℕ → Bool → List (Option Frames) → List (Option Frames) → Type 0
IsKept P w t steps true old new = (s : Frames) × (new ≡ slice_set old t (Some s)) × StoodIn P w t steps s
IsKept P w t steps false old new = new ≡ old

-- the frames of thread t before the last step of the run at a place
pub record StoodAt (P : Program) (first : World) (runs : List (ℕ × ℕ)) (t place : ℕ) (s : Frames) : Type 0 where
  pub steps : ℕ
  pub here : slice_get runs place ≡ Some (t, steps + 1)
  pub world : World
  pub run : Run P first (schedule_of (take place runs) ++ replicate steps t) world
  pub frames : AreFrames world t s

-- of the runs before a place, those that are the last of their threads
abbrev pub AreKept : Program → World → List (ℕ × ℕ) → List ℕ → List (Option Frames) → ℕ → Type 0
AreKept P first runs last before p =
    (t n i : ℕ) → i < p → slice_get runs i ≡ Some (t, n)
    → (t < length before) × (slice_get last t ≡ Some i
    → (s : Frames) × (slice_get before t ≡ Some (Some s)) × StoodAt P first runs t i s)
