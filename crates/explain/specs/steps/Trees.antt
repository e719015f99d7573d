-- Searches of a graph that keep from where each vertex was found.
use Rattle.std.specs.Prelude.{◌≡◌, ◌⊎◌, ℕ, ◌<◌, List, [], ◌∷◌, ◌++◌, Some, length, slice_get}
use Rattle.std.specs.List.{Contains}
use Rattle.graph.specs.Rows.{Rows, successors_of}

-- each vertex but the first was found from one that stands before it, along an edge
pub record IsTree (graph : Rows) (items finders : List ℕ) : Type 0 where
  pub len : length finders ≡ length items
  pub found : (p v : ℕ) → 0 < p → slice_get items p ≡ Some v
      → (f : ℕ) × (u : ℕ) × (f < p) × (slice_get finders p ≡ Some f) × (slice_get items f ≡ Some u)
      × Contains (successors_of graph u) v

-- a vertex comes last, as found from a place, if it is new
abbrev pub JoinsFrom : ℕ → ℕ → List ℕ → List ℕ → List ℕ → List ℕ → Type 0
JoinsFrom vertex place items finders new newer =
    ((¬ Contains items vertex) × (new ≡ items ++ vertex ∷ []) × (newer ≡ finders ++ place ∷ []))
    ⊎ (Contains items vertex × (new ≡ items) × (newer ≡ finders))
