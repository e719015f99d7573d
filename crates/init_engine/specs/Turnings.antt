-- Turns that go on by slices: where they stand between two of them, and what a slice promises.
use Rattle.std.specs.Prelude.{◌≡◌, ℕ, ◌+◌, ◌-◌, ◌<◌, ◌≤◌, ◌^◌, ◌⊎◌, Bool, true, false, List, [], ◌∷◌, ◌++◌, length}
use Rattle.std.specs.Prelude.{None, replicate, sum_by}
use Rattle.vm_state.specs.Output.{Print}
use Rattle.semantics.specs.Programs.{Program}
use Rattle.semantics.specs.Worlds.{World, Run, step}
use Rattle.method_lowering.specs.steps.StepTables.{Kept, KeepsSteps}
use Rattle.program.specs.Tables.{Tables}
use Rattle.init_engine.specs.Standing.{Standing}
use Rattle.init_engine.specs.Schedules.{schedule_of}
use Rattle.init_engine.specs.Turns.{world_of}
use Rattle.init_engine.specs.Rounds.{TurnsSoFar, Turns, HasStopped}

-- Where turns stand: the world, the schedule so far by its runs, how many steps may be made from the beginning of the
-- round on, how many threads of the round were asked, and how many steps they had. The steps of methods are kept.
pub record Midway : Type 0 where
  pub world : Standing
  pub schedule : List (ℕ × ℕ)
  pub kept : Kept
  pub left : ℕ
  pub asked : ℕ
  pub done : ℕ

-- how many steps may still be made
abbrev pub to_go : Midway → ℕ
to_go t = t.left - t.done

-- the turns of the threads of this world, of at most so many steps, as far as they went
abbrev pub IsUnderWay : Program → World → ℕ → Midway → Type 0
IsUnderWay P first limit t =
    TurnsSoFar P (length t.world.threads) first limit (schedule_of t.schedule) t.left t.asked t.done
    (world_of t.world)

-- they can go on: the place is one of a round, and the steps that were kept are those of the program
pub record CanGoOn (P : Tables) (t : Midway) : Type 0 where
  pub within : t.asked ≤ length t.world.threads
  pub bounded : t.done ≤ t.left
  pub few : t.done ≤ t.asked
  pub room : length (schedule_of t.schedule) + to_go t < 2 ^ 64
  pub keeps : KeepsSteps P t.kept

-- ---- text

-- how many bytes lines have
abbrev pub text_length : List Print → ℕ
text_length lines = sum_by (λ (line : Print). length line.text) lines

-- the last of these lines, before which there were fewer than so many bytes
pub record EndsAfter (bytes : ℕ) (lines : List Print) : Type 0 where
  pub before : List Print
  pub last : Print
  pub are : lines ≡ before ++ last ∷ []
  pub fewer : text_length before < bytes

-- there are no lines, or fewer than so many bytes before the last of them
abbrev pub IsWithin : ℕ → List Print → Type 0
IsWithin bytes lines = (lines ≡ []) ⊎ EndsAfter bytes lines

-- ---- a slice

-- A slice: at most so many steps were made, and before its last line it printed fewer than so many bytes. Where the
-- turns are not over it made that many steps, or printed that many bytes.
pub record IsSlice (steps bytes : ℕ) (over : Bool) (old new : Midway) : Type 0 where
  pub made : ℕ
  pub printed : List Print
  pub scheduled : length (schedule_of new.schedule) ≡ length (schedule_of old.schedule) + made
  pub fewer_to_go : to_go new + made ≡ to_go old
  pub few : made ≤ steps
  pub lines : new.world.printed ≡ old.world.printed ++ printed
  pub prompt : IsWithin bytes printed
  pub silent : made ≡ 0 → printed ≡ []
  pub whole : over ≡ false → (made ≡ steps) ⊎ (bytes ≤ text_length printed)

-- ---- one thread alone

-- A thread made so many steps, at most so many as it might, and before its last line it printed fewer than so many
-- bytes. Where it made fewer it printed that many bytes, or it has no step.
pub record RunsAhead (P : Program) (thread steps bytes made : ℕ) (old new : Standing) : Type 0 where
  pub run : Run P (world_of old) (replicate made thread) (world_of new)
  pub few : made ≤ steps
  pub printed : List Print
  pub lines : new.printed ≡ old.printed ++ printed
  pub prompt : IsWithin bytes printed
  pub silent : made ≡ 0 → printed ≡ []
  pub whole : (made ≡ steps) ⊎ (bytes ≤ text_length printed) ⊎ (step P (world_of new) thread ≡ None)

-- ---- what turns did

-- What the turns from a first world did: a run over the schedule leads to the world that they reached. If they are
-- over, they are all the turns, and they ended at the limit or where no thread has a step.
pub record HasTurned (P : Program) (first : World) (limit : ℕ) (over : Bool) (t : Midway) : Type 0 where
  pub under_way : IsUnderWay P first limit t
  pub run : Run P first (schedule_of t.schedule) (world_of t.world)
  pub turns : over ≡ true →
      Turns P (length t.world.threads) limit first (schedule_of t.schedule) (world_of t.world)
  pub stopped : over ≡ true →
      HasStopped P (length t.world.threads) limit (schedule_of t.schedule) (world_of t.world)
