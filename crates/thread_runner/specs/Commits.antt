-- What a commit answers, and what it changes.
use Rattle.std.specs.Prelude.{◌≡◌, ℕ, zero, suc, ◌+◌, ◌<◌, ◌≤◌, ◌++◌, Option, Some, None, length, replicate}
use Rattle.std.specs.Prelude.{slice_get}
use Rattle.vm_state.specs.declared.initialization.Frames.{Frames}
use Rattle.semantics.specs.Worlds.{World, step}
use Rattle.program.specs.Tables.{Tables}
use Rattle.machine.specs.Effects.{going}
use Rattle.machine.specs.Linked.{program_of}
use Rattle.init_engine.specs.Schedules.{schedule_of}
use Rattle.init_engine.specs.Stacks.{AreFrames, with_thread}
use Rattle.init_engine.specs.Turns.{Goes, IsOver, world_of}
use Rattle.thread_runner.specs.Unshared.{AreDone}
use Rattle.thread_runner.specs.Stretches.{Reach}
use Rattle.thread_runner.specs.Kept.{Grows, Pages, Past, printed_text, steps_of}
use Rattle.thread_runner.specs.declared.advance.Commit.{Commit}
use Rattle.thread_runner.specs.declared.advance.Commit.TheVariants.{Full, Stale, Moved, Waiting, Ended}

-- the stretch begins at the frames of thread t, and its classes are initialized
abbrev pub Fits : World → ℕ → Reach → Type 0
Fits w t s = AreFrames w t s.from × AreDone s.done w.shared

-- the world with these frames of thread t, where they are those after a step
abbrev pub there : World → ℕ → Frames → ℕ → World
there w t to zero = w
there w t to (suc n) = with_thread w t (going to)

-- the world after the steps of a stretch
abbrev pub after : World → ℕ → Reach → World
after w t s = there w t s.to s.count

-- all is as it was, to whoever looks at the world as the definition has it
pub record Same (old new : Past) : Type 0 where
  pub world : world_of new.world ≡ world_of old.world
  pub journal : new.journal ≡ old.journal
  pub limit : new.limit ≡ old.limit

-- what a commit leaves: what has gone out, what was printed, and maybe more, as many threads, and the limit
pub record PagesGoOn (old new : Pages) : Type 0 where
  pub sent : new.sent ≡ old.sent
  pub part : new.part ≡ old.part
  pub within : old.sent ≤ length (printed_text old)
  pub grows : Grows old.past.world.printed new.past.world.printed
  pub threads : length new.past.world.threads ≡ length old.past.world.threads
  pub limit : new.past.limit ≡ old.past.limit

-- this world, with n steps of t more in the journal
pub record Grew (old : Past) (t : ℕ) (w : World) (n : ℕ) (new : Past) : Type 0 where
  pub world : world_of new.world ≡ w
  pub journal : schedule_of new.journal ≡ schedule_of old.journal ++ replicate n t
  pub limit : new.limit ≡ old.limit

-- the n steps that led there, and one more where there is one
abbrev pub MovedTo : Past → ℕ → ℕ → World → Option World → Past → Type 0
MovedTo old t n there None new = (0 < n) × Grew old t there n new
MovedTo old t n there (Some w) new = Grew old t w (n + 1) new

-- no step was counted
abbrev pub Stood : Tables → Past → ℕ → ℕ → Past → Type 0
Stood P old t n new = (n ≡ 0) × (step (program_of P) (world_of old.world) t ≡ None) × Same old new

-- what is answered where n steps of t led to a world, and what is changed
abbrev pub IsCounted : Tables → Past → ℕ → ℕ → World → Commit → Past → Type 0
IsCounted P old t n there Full new = ⊥
IsCounted P old t n there Stale new = ⊥
IsCounted P old t n there Moved new = MovedTo old t n there (step (program_of P) there t) new
IsCounted P old t n there Waiting new = Goes (slice_get (world_of old.world).threads t) × Stood P old t n new
IsCounted P old t n there Ended new = IsOver (slice_get (world_of old.world).threads t) × Stood P old t n new

-- the stretch counts
abbrev pub Counts : Tables → Past → ℕ → Reach → Commit → Past → Type 0
Counts P old t s answer new = (steps_of old < old.limit) × Fits (world_of old.world) t s
    × IsCounted P old t s.count (after (world_of old.world) t s) answer new

-- Full: the journal has as many steps as it may. Stale: the stretch does not begin where its thread is, or takes a
-- class to be initialized that is not. Otherwise its steps count, and one more where there is one. Moved: one counted
-- at least. Waiting and Ended: none did, and the thread has not ended, or has.
abbrev pub IsCommit : Tables → Past → ℕ → Reach → Commit → Past → Type 0
IsCommit P old t s Full new = (old.limit ≤ steps_of old) × Same old new
IsCommit P old t s Stale new = (steps_of old < old.limit) × ¬ Fits (world_of old.world) t s × Same old new
IsCommit P old t s Moved new = Counts P old t s Moved new
IsCommit P old t s Waiting new = Counts P old t s Waiting new
IsCommit P old t s Ended new = Counts P old t s Ended new
