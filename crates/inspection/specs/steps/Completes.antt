-- How far the search for the greatest sizes has come.
use Rattle.std.specs.Prelude.{ℕ, ◌-◌, List, ◌++◌}
use Rattle.inspection.specs.Largest.{AreLargest}

-- Once some of so many places are found, and these sizes are left, what comes of these are the other places.
abbrev pub Completes : ℕ → List ℕ → ℕ → List ℕ → List ℕ → Type 0
Completes most sizes count left places =
    (rest : List ℕ) → AreLargest (most - count) left rest → AreLargest most sizes (places ++ rest)
