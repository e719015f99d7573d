-- Schedules by their runs: a thread, and how many steps it made in a row.
use Rattle.std.specs.Prelude.{◌≢◌, ℕ, ◌<◌, List, [], ◌∷◌, ◌++◌, replicate}

-- the schedule that a list of runs spells
abbrev pub schedule_of : List (ℕ × ℕ) → List ℕ
schedule_of [] = []
schedule_of (s ∷ ss) = replicate s.1 s.0 ++ schedule_of ss

abbrev pub BeginsWithOther : ℕ → List (ℕ × ℕ) → Type 0
BeginsWithOther t [] = Unit {0}
BeginsWithOther t (s ∷ ss) = t ≢ s.0

-- each has a step at least, and neighbours are of different threads
abbrev pub AreRuns : List (ℕ × ℕ) → Type 0
AreRuns [] = Unit {0}
AreRuns (s ∷ ss) = (0 < s.1) × BeginsWithOther s.0 ss × AreRuns ss
