-- How many flagged vertices stand below one another.
use Rattle.std.specs.Prelude.{◌≡◌, ℕ, ◌+◌, ◌<◌, Bool, false, IsTrue, List, length, slice_index, slice_index_or}
use Rattle.graph.specs.Rows.{Rows}
use Rattle.graph.specs.Reaches.{Reaches}

-- a flagged vertex that this one reaches, and that does not reach it
abbrev pub IsBelow : Rows → List Bool → ℕ → ℕ → Type 0
IsBelow graph flagged v e =
    Reaches graph v e × (¬ Reaches graph e v) × IsTrue (slice_index_or flagged e false)

-- a vertex is higher than all flagged ones below it, and by one than some of them if it is not at the bottom
pub record AreHeights (graph : Rows) (flagged : List Bool) (heights : List ℕ) : Type 0 where
  pub higher : (v e : ℕ) → v < length graph → IsBelow graph flagged v e
      → slice_index heights e < slice_index heights v
  pub attained : (v : ℕ) → v < length graph → 0 < slice_index heights v
      → (e : ℕ) × IsBelow graph flagged v e × (slice_index heights v ≡ slice_index heights e + 1)
