-- The order in which a descent in depth finishes vertices.
use Rattle.std.specs.Prelude.{ℕ, ◌+◌, ◌<◌, List, length, take, slice_index, ◌⊎◌}
use Rattle.std.specs.List.{Contains}
use Rattle.graph.specs.Rows.{Rows}
use Rattle.graph.specs.Reaches.{Reaches}
use Rattle.graph.specs.Order.{HasEachOnce, IsPostorder}
use Rattle.graph.specs.Components.{AreMutual}

-- it is finished, or is reached by a vertex that is not, and that is on a cycle with v
abbrev pub IsFinishedOrLater : Rows → List ℕ → ℕ → ℕ → Type 0
IsFinishedOrLater graph finished v u =
    Contains finished u ⊎ ((q : ℕ) × (¬ Contains finished q) × AreMutual graph q v × Reaches graph q u)

-- so is all that a vertex reaches, when it is finished
abbrev pub FinishesReached : Rows → List ℕ → Type 0
FinishesReached graph order =
    (i u : ℕ) → i < length order → Reaches graph (slice_index order i) u
    → IsFinishedOrLater graph (take (i + 1) order) (slice_index order i) u

pub record IsFinishingOrder (graph : Rows) (order : List ℕ) : Type 0 where
  pub postorder : IsPostorder graph order
  pub reached : FinishesReached graph order

-- the same of the graph with its edges turned round, of what reaches a vertex
pub record IsTurnedOrder (back : Rows) (order : List ℕ) : Type 0 where
  pub each : HasEachOnce back order
  pub reached : (i u : ℕ) → i < length order → Reaches back u (slice_index order i)
      → Contains (take (i + 1) order) u
      ⊎ ((q : ℕ) × (¬ Contains (take (i + 1) order) q) × AreMutual back q (slice_index order i) × Reaches back u q)
