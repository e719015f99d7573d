-- Bearers that are found one after the other.
use Rattle.std.specs.Prelude.{◌≡◌, ◌⊎◌, ℕ, ◌+◌, ◌*◌, ◌<◌, List, length, Some, None, slice_get}
use Rattle.std.specs.List.{Contains, sum_by}
use Rattle.explain.specs.declared.bearers.Bearer.{Bearer}
use Rattle.explain.specs.declared.bearers.Pair.{Pair}
use Rattle.explain.specs.declared.bearers.VertexBearer.{VertexBearer}
use Rattle.explain.specs.steps.Nearest.{Has}
use Rattle.explain.specs.steps.Bearers.{IsPair, Serves, room}

abbrev pub no_pair : Pair
no_pair = record { first = None; second = None }

-- what vertices have was found, and there is room for so much more
pub record AreFound (pairs : List Pair) (found : List VertexBearer) : Type 0 where
  pub each : (v : ℕ) (pair : Pair) → slice_get pairs v ≡ Some pair → IsPair pair
  pub held : (s : VertexBearer) → Contains found s → Has pairs s.vertex s.bearer
  pub noted : (v : ℕ) (g : Bearer) → Has pairs v g → Contains found (record { vertex = v; bearer = g })
  pub rest : length found + sum_by room pairs ≡ 2 * length pairs

-- vertices were given bearers
pub record AddsAll (Given : VertexBearer → Type 0) (old : List Pair) (found : List VertexBearer) (new : List Pair)
    (more : List VertexBearer) : Type 0 where
  pub len : length new ≡ length old
  pub keeps : (v : ℕ) (g : Bearer) → Has old v g → Has new v g
  pub stays : (k : ℕ) (s : VertexBearer) → slice_get found k ≡ Some s → slice_get more k ≡ Some s
  pub serves : (s : VertexBearer) → Given s → Serves (Has new s.vertex) s.bearer
  pub only : (v : ℕ) (g : Bearer) → Has new v g → Has old v g ⊎ Given (record { vertex = v; bearer = g })

-- a vertex of a row with a bearer
abbrev pub IsIn : List ℕ → Bearer → VertexBearer → Type 0
IsIn row g s = Contains row s.vertex × (s.bearer ≡ g)

-- an element stands before a place
abbrev pub IsBefore : {A : Type 0} → List A → ℕ → A → Type 0
IsBefore xs i x = (k : ℕ) × (k < i) × (slice_get xs k ≡ Some x)
