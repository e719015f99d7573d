-- A descent through a graph in depth.
use Rattle.std.specs.Prelude.{◌≡◌, ℕ, ◌+◌, ◌<◌, ◌≤◌, List, length, slice_index}
use Rattle.std.specs.List.{All, Contains}
use Rattle.graph.specs.Rows.{Rows, successors_of}
use Rattle.graph.specs.Reaches.{Reaches}
use Rattle.graph.specs.Seen.{AreDistinct, count_of}
use Rattle.graph.specs.Order.{ComesAfterOrCycles}
use Rattle.graph.specs.steps.Finishing.{FinishesReached}

-- what was seen stands once, on the path or among what is finished
pub record Descending (graph : Rows) (seen path passed finished : List ℕ) : Type 0 where
  pub counted : (x : ℕ) → count_of finished x + count_of path x ≡ count_of seen x
  pub distinct : AreDistinct seen
  pub within : All (λ v. v < length graph) seen
  -- a vertex of the path reaches those after it
  pub chain : (i j : ℕ) → i ≤ j → j < length path → Reaches graph (slice_index path i) (slice_index path j)
  -- so many successors of each vertex were seen
  pub short : (v : ℕ) → slice_index passed v ≤ length (successors_of graph v)
  pub looked : (v j : ℕ) → j < slice_index passed v → Contains seen (slice_index (successors_of graph v) j)
  pub after : ComesAfterOrCycles graph finished
  -- all successors of a finished vertex were seen
  pub explored : (v b : ℕ) → Contains finished v → Contains (successors_of graph v) b → Contains seen b
  pub reached : FinishesReached graph finished
