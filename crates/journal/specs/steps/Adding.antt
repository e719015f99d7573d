-- Journals, read line by line.
use Rattle.std.specs.Prelude.{◌≡◌, ℕ, ◌+◌, ◌<◌, ◌^◌, ◌++◌, List, [], ◌∷◌, length, replicate}
use Rattle.init_engine.specs.Schedules.{schedule_of, AreRuns}
use Rattle.journal.specs.Journals.{AreLines, IsRun, in_row, last_in_row, lines_of}

-- so many steps of a thread were added
pub record Extends (old : List (ℕ × ℕ)) (thread steps : ℕ) (new : List (ℕ × ℕ)) : Type 0 where
  pub runs : AreRuns new
  pub schedule : schedule_of new ≡ schedule_of old ++ replicate steps thread
  pub last : (t : ℕ) → last_in_row t new ≡ in_row t (last_in_row t old) (thread, steps)
  pub fits : last_in_row thread old + steps < 2 ^ 64

-- a run of a line was added
abbrev pub IsAdded : List (ℕ × ℕ) → ℕ × ℕ → List (ℕ × ℕ) → Type 0
IsAdded old r new = IsRun r × Extends old r.0 r.1 new

-- the lines of a text, up to this rest and before this line, are these runs
pub record IsReadSo (text rest : List ℕ) (line : ℕ) (now : List (ℕ × ℕ)) : Type 0 where
  pub before : List (ℕ × ℕ)
  pub lines : AreLines before
  pub whole : text ≡ lines_of before ++ rest
  pub counted : line ≡ length before + 1
  pub runs : AreRuns now
  pub schedule : schedule_of now ≡ schedule_of before
  pub last : (t : ℕ) → last_in_row t now ≡ last_in_row t before
