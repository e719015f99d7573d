-- Strongly connected components: the classes of vertices that reach each other.
use Rattle.std.specs.Prelude.{◌≡◌, ℕ, ◌<◌, ◌≤◌, ◌↔◌, List, length, slice_index}
use Rattle.std.specs.List.{All, Contains}
use Rattle.graph.specs.Rows.{Rows, successors_of}
use Rattle.graph.specs.Reaches.{Reaches}
use Rattle.graph.specs.Order.{HasEachOnce}

-- each reaches the other
abbrev pub AreMutual : Rows → ℕ → ℕ → Type 0
AreMutual graph u v = Reaches graph u v × Reaches graph v u

-- no edge leads to a lower number
abbrev pub NeverFalls : Rows → List ℕ → Type 0
NeverFalls graph numbers =
    (v b : ℕ) → Contains (successors_of graph v) b → slice_index numbers v ≤ slice_index numbers b

-- the number of each vertex's component, and the vertices of all components
pub record Parts : Type 0 where
  pub numbers : List ℕ
  pub order : List ℕ

-- two vertices have one number where they reach each other, and the vertices stand by ascending numbers, which are
-- places of a table with as many places as there are vertices
pub record AreComponents (graph : Rows) (parts : Parts) : Type 0 where
  pub len : length parts.numbers ≡ length graph
  pub below : All (λ n. n < length graph) parts.numbers
  pub never_falls : NeverFalls graph parts.numbers
  pub shared : (u v : ℕ) → u < length graph → v < length graph
      → (slice_index parts.numbers u ≡ slice_index parts.numbers v) ↔ AreMutual graph u v
  pub each : HasEachOnce graph parts.order
  pub ascending : (i j : ℕ) → i ≤ j → j < length parts.order
      → slice_index parts.numbers (slice_index parts.order i) ≤ slice_index parts.numbers (slice_index parts.order j)
