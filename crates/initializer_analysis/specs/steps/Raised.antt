-- Heights of components, found from the last vertex of their order to the first.
use Rattle.std.specs.Prelude.{◌≡◌, ℕ, ◌+◌, ◌<◌, ◌≤◌, ◌↔◌, Bool, false, IsTrue, List, length, slice_index}
use Rattle.std.specs.Prelude.{slice_index_or, if◌then◌else◌, ◌⊎◌}
use Rattle.graph.specs.Rows.{Rows, successors_of}
use Rattle.graph.specs.Components.{Parts}
use Rattle.initializer_analysis.specs.steps.Joined.{IsBeyond}

-- a table by components tells which have a flagged vertex below a limit
abbrev pub HaveFlagged : List ℕ → List Bool → ℕ → List Bool → Type 0
HaveFlagged numbers flagged limit table =
    (n : ℕ) → IsTrue (slice_index_or table n false)
    ↔ ((e : ℕ) × (e < limit) × IsTrue (slice_index_or flagged e false) × (slice_index numbers e ≡ n))

-- how high a component is, with its own flagged vertices
abbrev pub top_of : List ℕ → List Bool → ℕ → ℕ
top_of heights flagged number =
    if slice_index_or flagged number false then slice_index heights number + 1 else slice_index heights number

-- the highest top of other components to which a row leads, or the start
pub record IsHighest (numbers row heights : List ℕ) (flagged : List Bool) (number start highest : ℕ) : Type 0 where
  pub from_start : start ≤ highest
  pub all : (b : ℕ) → IsBeyond numbers number row b → top_of heights flagged (slice_index numbers b) ≤ highest
  pub attained : (highest ≡ start)
      ⊎ ((b : ℕ) × IsBeyond numbers number row b × (top_of heights flagged (slice_index numbers b) ≡ highest))

-- a height has room below how many components may follow
abbrev pub HaveRoom : List ℕ → Type 0
HaveRoom heights = (n : ℕ) → n < length heights → slice_index heights n + n < length heights

-- vertices from a place on have raised their components to the tops of those to which they lead
pub record AreRaisedFrom (graph : Rows) (parts : Parts) (flagged : List Bool) (place : ℕ) (heights : List ℕ)
    : Type 0 where
  pub room : HaveRoom heights
  pub all : (k b : ℕ) → place ≤ k → k < length parts.order
      → IsBeyond parts.numbers (slice_index parts.numbers (slice_index parts.order k))
      (successors_of graph (slice_index parts.order k)) b
      → top_of heights flagged (slice_index parts.numbers b)
      ≤ slice_index heights (slice_index parts.numbers (slice_index parts.order k))
  pub attained : (n : ℕ) → n < length heights → 0 < slice_index heights n
      → (k : ℕ) × (b : ℕ) × (place ≤ k) × (k < length parts.order)
      × (slice_index parts.numbers (slice_index parts.order k) ≡ n)
      × IsBeyond parts.numbers n (successors_of graph (slice_index parts.order k)) b
      × (b < length graph)
      × (top_of heights flagged (slice_index parts.numbers b) ≡ slice_index heights n)

-- all vertices have, with the marks of those components that have a flagged vertex
abbrev pub AreRaised : Rows → Parts → List Bool → List ℕ → Type 0
AreRaised graph parts flagged heights =
    (by : List Bool) × HaveFlagged parts.numbers flagged (length flagged) by × AreRaisedFrom graph parts by 0 heights
