-- What a topological order is good for.
use Rattle.std.proofs.Common.{◌≡◌, ℕ, zero, suc, ◌+◌, ◌<◌, ◌↔◌, inl, inr, ◌∙◌, Bool, true, false, ◌++◌, List}
use Rattle.std.proofs.Common.{[], ◌∷◌, length, take, get_or, slice_index, sym, subst, arith}
use Rattle.std.proofs.lemmas.Bool.{cases_lt}
use Rattle.std.specs.List.{All, Contains}
use Rattle.std.proofs.lemmas.Grind.{common_steps}
use Rattle.std.proofs.lemmas.List.Elements.{All-get_or, All-contains, Contains-push, Contains-push_cases}
use Rattle.std.proofs.lemmas.List.Elements.{Contains-append_left}
use Rattle.std.proofs.lemmas.List.{take_more}
use Rattle.graph.specs.Rows.{Rows, successors_of}
use Rattle.graph.specs.Reaches.{OnCycle, IsAcyclic}
use Rattle.graph.specs.Order.{IsTopological, HasEachOnce, ComesAfterOrCycles}
use Rattle.graph.specs.Seen.{Joins}
use Rattle.graph.proofs.SeenLemmas.{Contains-counted}
use Rattle.graph.proofs.RowsLemmas.{has_successor}
use Rattle.graph.proofs.ReachesLemmas.{OnCycle-successor}

-- where a member of a list stands
pub place_of_member : (xs : List ℕ) (x : ℕ) → Contains xs x → (k : ℕ) × (k < length xs) × (slice_index xs k ≡ x)
place_of_member xs x (k, small, e) = (k, small, at k small e)
  where
    at : (k : ℕ) → k < length xs → get_or xs k x ≡ x → slice_index xs k ≡ x
    at k small e = grind (arith, common_steps)

-- where a member of the front part of a list stands
pub place_in_front : (xs : List ℕ) (i x : ℕ) → Contains (take i xs) x → (k : ℕ) × (k < i) × (k < length xs)
    × (slice_index xs k ≡ x)
place_in_front xs i x (k, small, e) = (k, low i k small, high i k small, at i k small e)
  where
    low : (i k : ℕ) → k < length (take i xs) → k < i
    low i k small = grind (arith, common_steps)

    high : (i k : ℕ) → k < length (take i xs) → k < length xs
    high i k small = grind (arith, common_steps)

    at : (i k : ℕ) → k < length (take i xs) → get_or (take i xs) k x ≡ x → slice_index xs k ≡ x
    at i k small e = grind (arith, common_steps)

pub has_vertex : (graph : Rows) (order : List ℕ) (v : ℕ) → HasEachOnce graph order → v < length graph → Contains order v
has_vertex graph order v each small = Contains-counted order v (omega (arith, each.once v small))

-- what holds of a vertex where it holds of its successors holds of each vertex
pub topological_induction : (graph : Rows) (order : List ℕ) → IsTopological graph order → (P : ℕ → Type 0)
    → ((v : ℕ) → v < length graph → ((b : ℕ) → Contains (successors_of graph v) b → P b) → P v)
    → (v : ℕ) → v < length graph → P v
topological_induction graph order t P step v small =
    let at = place_of_member order v (has_vertex graph order v t.each small) in
    subst P at.2 (below (at.0 + 1) at.0 (omega arith) at.1)
  where
    -- by how early a vertex stands
    below : (n i : ℕ) → i < n → i < length order → P (slice_index order i)
    below zero i h within = absurd (omega arith)
    below (suc n) i h within =
        step (slice_index order i) (All-get_or (λ u. u < length graph) order i 0 within t.each.within)
        (λ b edge. (let at = place_in_front order i b (t.after i b within edge) in
        subst P at.3 (below n at.0 (omega (arith, at.1)) at.2)))

-- a graph with a topological order has no cycle
pub topological_acyclic : (graph : Rows) (order : List ℕ) → IsTopological graph order → IsAcyclic graph
topological_acyclic graph order t v on =
    topological_induction graph order t (λ (u : ℕ). OnCycle graph u → ⊥)
    (λ u small rest on. (let next = OnCycle-successor graph u on in rest next.0 next.1 next.2)) v
    (has_successor graph v on.0 on.1) on

-- ---- the test of an order

-- a vertex that an order names before one of its successors is on a cycle
pub late_on_cycle : (graph : Rows) (order finished : List ℕ) (i b : ℕ) → ComesAfterOrCycles graph order
    → i < length order
    → ((x : ℕ) → Contains (take i order) x → Contains finished x)
    → Contains (successors_of graph (slice_index order i)) b → (Contains finished b → ⊥)
    → OnCycle graph (slice_index order i)
late_on_cycle graph order finished i b after within has edge late = elim (after i b within edge) [
  | inl before ↦ absurd (late (has b before))
  | inr back ↦ (b, edge, back)
]

-- one more vertex of an order has all of its successors before it
pub after_more : (graph : Rows) (order finished : List ℕ) (i : ℕ)
    → ((x : ℕ) → Contains finished x → Contains (take i order) x)
    → All (Contains finished) (successors_of graph (slice_index order i))
    → ((j b : ℕ) → j < i → Contains (successors_of graph (slice_index order j)) b → Contains (take j order) b)
    → (j b : ℕ) → j < i + 1 → Contains (successors_of graph (slice_index order j)) b → Contains (take j order) b
after_more graph order finished i same all after j b h edge = elim (cases_lt j i) [
  | inl less ↦ after j b less edge
  | inr more ↦ (let e : j ≡ i = omega arith in
      rw e (same b (All-contains (Contains finished) (successors_of graph (slice_index order i)) b all (rw e at edge))))
]

-- one more member of an order is finished
pub finished_more : (order old new : List ℕ) (i v : ℕ) (fresh : Bool) → i < length order → v ≡ slice_index order i
    → Joins fresh old v new
    → ((x : ℕ) → Contains old x ↔ Contains (take i order) x) → (x : ℕ) → Contains new x
    ↔ Contains (take (i + 1) order) x
finished_more order old new i v true within e s same x = rw (s.1, take_more order i 0 within) (
  λ h. elim (Contains-push_cases old v x h) [
    | inl o ↦ Contains-append_left (take i order) (slice_index order i ∷ []) x ((same x).0 o)
    | inr is ↦ subst (λ (y : ℕ). Contains (take i order ++ slice_index order i ∷ []) y) (sym e ∙ is)
        (Contains-push (take i order) (slice_index order i))
  ],
  λ h. elim (Contains-push_cases (take i order) (slice_index order i) x h) [
    | inl o ↦ Contains-append_left old (v ∷ []) x ((same x).1 o)
    | inr is ↦ subst (λ (y : ℕ). Contains (old ++ v ∷ []) y) (e ∙ is) (Contains-push old v)
  ],
)
finished_more order old new i v false within e s same x = rw (s.1, take_more order i 0 within) (
  λ h. Contains-append_left (take i order) (slice_index order i ∷ []) x ((same x).0 h),
  λ h. elim (Contains-push_cases (take i order) (slice_index order i) x h) [
    | inl o ↦ (same x).1 o
    | inr is ↦ subst (λ (y : ℕ). Contains old y) (e ∙ is) s.0
  ],
)
