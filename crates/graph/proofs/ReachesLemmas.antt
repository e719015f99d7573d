-- Paths of a graph.
use Rattle.std.proofs.Common.{◌≡◌, ℕ, ◌⊎◌, inl, inr, refl, sym, subst}
use Rattle.std.specs.List.{Contains}
use Rattle.graph.specs.Rows.{Rows, successors_of}
use Rattle.graph.specs.Reaches.{Reaches, itself, along, OnCycle}

-- a path after a path
pub Reaches-joined : (graph : Rows) (a b c : ℕ) → Reaches graph a b → Reaches graph b c → Reaches graph a c
Reaches-joined graph a b c p itself = p
Reaches-joined graph a b c p (along {a = d} q edge) = along (Reaches-joined graph a b d p q) edge

-- a path is empty, or has a first edge
pub Reaches-first : (graph : Rows) (a b : ℕ) → Reaches graph a b → (a ≡ b)
    ⊎ ((d : ℕ) × Contains (successors_of graph a) d × Reaches graph d b)
Reaches-first graph a b itself = inl refl
Reaches-first graph a b (along {a = u} q edge) = elim (Reaches-first graph a u q) [
  | inl same ↦ inr (b, subst (λ (x : ℕ). Contains (successors_of graph x) b) (sym same) edge, itself)
  | inr (d, first, rest) ↦ inr (d, first, along rest edge)
]

-- a vertex on a cycle has a successor on it
pub OnCycle-successor : (graph : Rows) (v : ℕ) → OnCycle graph v → (d : ℕ) × Contains (successors_of graph v) d
    × OnCycle graph d
OnCycle-successor graph v (d, edge, back) = (
  d,
  edge,
  elim (Reaches-first graph d v back) [
    | inl same ↦ subst (λ (x : ℕ). OnCycle graph x) (sym same) (d, edge, back)
    | inr (e, first, rest) ↦ (e, first, along rest edge)
  ],
)
