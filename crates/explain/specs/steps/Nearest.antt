-- What bearers vertices reach.
use Rattle.std.specs.Prelude.{◌≡◌, ℕ, ◌<◌, List, length, Some, slice_get}
use Rattle.std.specs.List.{Contains}
use Rattle.graph.specs.Rows.{Rows}
use Rattle.graph.specs.Reaches.{Reaches}
use Rattle.explain.specs.declared.bearers.Bearer.{Bearer}
use Rattle.explain.specs.declared.bearers.Pair.{Pair}
use Rattle.explain.specs.declared.bearers.VertexBearer.{VertexBearer}
use Rattle.explain.specs.steps.Bearers.{IsOf, Serves}

abbrev pub HaveVertices : List VertexBearer → ℕ → Type 0
HaveVertices sources limit = (s : VertexBearer) → Contains sources s → s.vertex < limit

-- one of a vertex's pair
abbrev pub Has : List Pair → ℕ → Bearer → Type 0
Has pairs v g = (pair : Pair) × (slice_get pairs v ≡ Some pair) × IsOf pair g

-- a bearer of a vertex that reaches this one where edges are turned round
abbrev pub IsReachedBearer : Rows → List VertexBearer → ℕ → Bearer → Type 0
IsReachedBearer back sources v g =
    (u : ℕ) × Contains sources (record { vertex = u; bearer = g }) × Reaches back u v

-- each vertex has bearers that it reaches, and wherever one that it reaches serves, one that it has does
pub record AreNearest (back : Rows) (sources : List VertexBearer) (pairs : List Pair) : Type 0 where
  pub len : length pairs ≡ length back
  pub sound : (v : ℕ) (g : Bearer) → Has pairs v g → IsReachedBearer back sources v g
  pub complete : (v : ℕ) (g : Bearer) → IsReachedBearer back sources v g → Serves (Has pairs v) g
