-- Components get numbers, one search over the graph with its edges turned round after the other.
use Rattle.std.specs.Prelude.{◌≡◌, ℕ, ◌<◌, ◌≤◌, ◌↔◌, List, length, slice_index, ◌⊎◌}
use Rattle.std.specs.List.{All, Contains}
use Rattle.graph.specs.Rows.{Rows, successors_of}
use Rattle.graph.specs.Reaches.{Reaches}
use Rattle.graph.specs.Seen.{AreDistinct}
use Rattle.graph.specs.Components.{AreMutual, Parts}

-- a search from a root adds to a list what is not there; what it has looked at, up to a place, has one number
pub record Gathering (back : Rows) (root : ℕ) (old before items numbers : List ℕ) (next : ℕ) : Type 0 where
  pub starts : Contains items root
  pub grows : length old ≤ length items
  pub same : (k : ℕ) → k < length old → slice_index items k ≡ slice_index old k
  pub keeps : (x : ℕ) → Contains old x → Contains items x
  pub within : All (λ v. v < length back) items
  pub sound : (x : ℕ) → Contains items x → Contains old x ⊎ Reaches back root x
  pub later : length old ≤ next
  pub up_to : next ≤ length items
  pub closed : (k : ℕ) → length old ≤ k → k < next → All (Contains items) (successors_of back (slice_index items k))
  pub numbered : (k : ℕ) → length old ≤ k → k < next → slice_index numbers (slice_index items k) ≡ length old
  pub kept : (v : ℕ) → Contains old v → slice_index numbers v ≡ slice_index before v

-- these vertices are whole components with all that they reach, and have their numbers
pub record Numbered (back : Rows) (items numbers : List ℕ) : Type 0 where
  pub distinct : AreDistinct items
  pub few : length items ≤ length back
  pub within : All (λ v. v < length back) items
  pub closed : (a b : ℕ) → Contains items a → Contains (successors_of back a) b → Contains items b
  pub rises : (a b : ℕ) → Contains items a → Contains (successors_of back a) b
      → slice_index numbers b ≤ slice_index numbers a
  pub shared : (a b : ℕ) → Contains items a → Contains items b
      → (slice_index numbers a ≡ slice_index numbers b) ↔ AreMutual back a b
  pub ascending : (i j : ℕ) → i ≤ j → j < length items
      → slice_index numbers (slice_index items i) ≤ slice_index numbers (slice_index items j)
  pub low : (v : ℕ) → Contains items v → slice_index numbers v < length items

-- all vertices have numbers
pub record AreNumbered (back : Rows) (parts : Parts) : Type 0 where
  pub len : length parts.numbers ≡ length back
  pub numbered : Numbered back parts.order parts.numbers
  pub all : (v : ℕ) → v < length back → Contains parts.order v
