-- A graph with its edges turned round.
use Rattle.std.specs.Prelude.{◌≡◌, ℕ, ◌<◌, ◌↔◌, List, length, ◌⊎◌}
use Rattle.std.specs.List.{Contains}
use Rattle.graph.specs.Rows.{Rows, successors_of}

-- it has an edge from b to a for each from a to b, and no others
pub record IsReverse (graph back : Rows) : Type 0 where
  pub len : length back ≡ length graph
  pub edges : (a b : ℕ) → Contains (successors_of back b) a ↔ Contains (successors_of graph a) b

-- the edges from vertices below a limit have been turned round
pub record IsReverseBelow (graph back : Rows) (limit : ℕ) : Type 0 where
  pub len : length back ≡ length graph
  pub edges : (a b : ℕ) → Contains (successors_of back b) a ↔ ((a < limit) × Contains (successors_of graph a) b)

-- edges to one vertex from each of a row were added
pub record AddsEdges (old : Rows) (row : List ℕ) (to : ℕ) (new : Rows) : Type 0 where
  pub len : length new ≡ length old
  pub edges : (a b : ℕ) → Contains (successors_of new b) a
      ↔ (Contains (successors_of old b) a ⊎ ((a ≡ to) × Contains row b))
