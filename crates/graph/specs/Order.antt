-- Orders of a graph's vertices.
use Rattle.std.specs.Prelude.{◌≡◌, ℕ, ◌<◌, List, length, take, slice_index, ◌⊎◌}
use Rattle.std.specs.List.{All, Contains}
use Rattle.graph.specs.Rows.{Rows, successors_of}
use Rattle.graph.specs.Reaches.{Reaches}
use Rattle.graph.specs.Seen.{count_of}

-- a list has each vertex at one place, and nothing else
pub record HasEachOnce (graph : Rows) (order : List ℕ) : Type 0 where
  pub within : All (λ v. v < length graph) order
  pub once : (v : ℕ) → v < length graph → count_of order v ≡ 1

-- the vertex at each place comes after its successors
abbrev pub ComesAfter : Rows → List ℕ → Type 0
ComesAfter graph order =
    (i b : ℕ) → i < length order → Contains (successors_of graph (slice_index order i)) b → Contains (take i order) b

-- the vertex at each place comes after its successors, but for those that reach it
abbrev pub ComesAfterOrCycles : Rows → List ℕ → Type 0
ComesAfterOrCycles graph order =
    (i b : ℕ) → i < length order → Contains (successors_of graph (slice_index order i)) b
    → Contains (take i order) b ⊎ Reaches graph b (slice_index order i)

-- each vertex once, after its successors, but for those that reach it
pub record IsPostorder (graph : Rows) (order : List ℕ) : Type 0 where
  pub each : HasEachOnce graph order
  pub after : ComesAfterOrCycles graph order

-- each vertex once, after all of its successors
pub record IsTopological (graph : Rows) (order : List ℕ) : Type 0 where
  pub each : HasEachOnce graph order
  pub after : ComesAfter graph order
