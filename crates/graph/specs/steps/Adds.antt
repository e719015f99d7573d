-- A list to which the members of a row were added.
use Rattle.std.specs.Prelude.{◌≡◌, ℕ, ◌<◌, ◌≤◌, List, length, slice_index, ◌⊎◌}
use Rattle.std.specs.List.{All, Contains}

-- what was there stays at its place, and the row's members come after them where they are new
pub record Adds (old row new : List ℕ) : Type 0 where
  pub grows : length old ≤ length new
  pub same : (k : ℕ) → k < length old → slice_index new k ≡ slice_index old k
  pub keeps : (x : ℕ) → Contains old x → Contains new x
  pub added : All (Contains new) row
  pub only : (x : ℕ) → Contains new x → Contains old x ⊎ Contains row x
