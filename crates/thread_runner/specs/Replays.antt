-- What a journal's replay answers.
use Rattle.std.specs.Prelude.{◌≡◌, ℕ, ◌+◌, List, Some, replicate, slice_get, take}
use Rattle.semantics.specs.Programs.{Program}
use Rattle.semantics.specs.Worlds.{World, Run, seen}
use Rattle.init_engine.specs.Observations.{IsObservation}
use Rattle.init_engine.specs.Schedules.{schedule_of}
use Rattle.init_engine.specs.declared.world.Seen.{Seen}
use Rattle.thread_runner.specs.declared.replay.ReplayFault.{ReplayFault}
use Rattle.thread_runner.specs.declared.replay.ReplayFault.TheVariants.{Turn}

-- the journal's run leads to a world in which this is seen
pub record IsReplay (P : Program) (start : World) (runs : List (ℕ × ℕ)) (s : Seen) : Type 0 where
  pub last : World
  pub run : Run P start (schedule_of runs) last
  pub observed : IsObservation s (seen last)

-- no run over this schedule begins here
abbrev pub NoRun : Program → World → List ℕ → Type 0
NoRun P w schedule = (last : World) → ¬ Run P w schedule last

-- The lines before this one, counted from 1, have a run, and in the world that it leads to the line's thread has not
-- so many steps: there is no such thread, or it has none at some place.
pub record IsTurnFault (P : Program) (start : World) (runs : List (ℕ × ℕ)) (line : ℕ) : Type 0 where
  pub place : ℕ
  pub counted : line ≡ place + 1
  pub world : World
  pub before : Run P start (schedule_of (take place runs)) world
  pub here : ℕ × ℕ
  pub stands : slice_get runs place ≡ Some here
  pub none : NoRun P world (replicate here.1 here.0)

-- why a journal is not replayed, but for want of memory
pub data ReplayFails (P : Program) (start : World) (runs : List (ℕ × ℕ)) : ReplayFault → Type 0 where
  turn : {line : ℕ} → IsTurnFault P start runs line → ReplayFails P start runs (Turn line)
