-- Journals: schedules by their runs, and their texts. A line is a thread, one space, a number of steps and byte 0A.
use Rattle.std.specs.Prelude.{◌≡◌, ◌≢◌, ℕ, ◌+◌, ◌<◌, ◌^◌, ◌==◌, List, [], ◌∷◌, ◌++◌, length, if◌then◌else◌}
use Rattle.std.specs.Fmt.{decimal}
use Rattle.init_engine.specs.Schedules.{schedule_of}
use Rattle.journal.specs.declared.fault.JournalFault.{JournalFault}
use Rattle.journal.specs.declared.fault.JournalFault.TheVariants.{Text}

-- ---- texts

-- the line of a run: its thread and how many steps it made in a row
abbrev pub line_of : ℕ × ℕ → List ℕ
line_of r = decimal r.0 ++ 32 ∷ (decimal r.1 ++ 10 ∷ [])

-- the lines of some runs
abbrev pub lines_of : List (ℕ × ℕ) → List ℕ
lines_of [] = []
lines_of (r ∷ rs) = line_of r ++ lines_of rs

-- ---- what a journal may hold

-- its thread and its steps are numbers that a journal has, and there is a step
abbrev pub IsRun : ℕ × ℕ → Type 0
IsRun r = (r.0 < 2 ^ 32) × (0 < r.1) × (r.1 < 2 ^ 64)

-- how many steps of thread t in a row there are after a run, with so many before it
abbrev pub in_row : ℕ → ℕ → ℕ × ℕ → ℕ
in_row t n r = if r.0 == t then n + r.1 else 0

-- how many there are after some runs
abbrev pub in_row_after : ℕ → ℕ → List (ℕ × ℕ) → ℕ
in_row_after t n [] = n
in_row_after t n (r ∷ rs) = in_row_after t (in_row t n r) rs

-- how many steps of thread t in a row some runs end with
abbrev pub last_in_row : ℕ → List (ℕ × ℕ) → ℕ
last_in_row t rs = in_row_after t 0 rs

-- a run may follow these: steps of equal neighbours are counted together
abbrev pub MayFollow : List (ℕ × ℕ) → ℕ × ℕ → Type 0
MayFollow before r = IsRun r × (last_in_row r.0 before + r.1 < 2 ^ 64)

-- each of them may follow those before it
pub data AreLines : List (ℕ × ℕ) → Type 0 where
  none : AreLines []
  more : {before : List (ℕ × ℕ)} {r : ℕ × ℕ} → AreLines before → MayFollow before r → AreLines (before ++ r ∷ [])

-- a text spells the schedule of these runs: it has lines, in each of which the steps fit, and these are their steps
pub record IsJournalOf (text : List ℕ) (runs : List (ℕ × ℕ)) : Type 0 where
  pub read : List (ℕ × ℕ)
  pub lines : AreLines read
  pub written : text ≡ lines_of read
  pub schedule : schedule_of runs ≡ schedule_of read

-- The first line at fault, from 1: those before it are lines, and there is more, which does not begin with one.
pub record IsFirstFault (text : List ℕ) (line : ℕ) : Type 0 where
  pub before : List (ℕ × ℕ)
  pub rest : List ℕ
  pub lines : AreLines before
  pub whole : text ≡ lines_of before ++ rest
  pub more : 0 < length rest
  pub counted : line ≡ length before + 1
  pub fault : (r : ℕ × ℕ) (tail : List ℕ) → rest ≡ line_of r ++ tail → ¬ MayFollow before r

-- why a text is no journal, but for want of memory
pub data JournalFails (text : List ℕ) : JournalFault → Type 0 where
  line : {number : ℕ} → IsFirstFault text number → JournalFails text (Text number)
