-- Graphs with their edges turned round.
use Rattle.std.proofs.Common.{◌≡◌, ℕ, ◌+◌, ◌<◌, ◌≤◌, ◌↔◌, ◌⊎◌, List, [], ◌∷◌, ◌++◌, length, take, set, slice_index, inl}
use Rattle.std.proofs.Common.{inr, refl, sym, subst, arith, ◌∙◌}
use Rattle.std.proofs.lemmas.Bool.{cases_eq}
use Rattle.std.specs.List.{All, Contains}
use Rattle.std.proofs.lemmas.List.{length-set, take_more}
use Rattle.std.proofs.lemmas.List.Elements.{Contains-push, Contains-push_cases, Contains-append_left}
use Rattle.graph.specs.Rows.{Rows, successors_of}
use Rattle.graph.specs.Reaches.{Reaches, itself, along}
use Rattle.graph.specs.Components.{AreMutual}
use Rattle.graph.specs.steps.Reverse.{IsReverse, IsReverseBelow, AddsEdges}
use Rattle.graph.specs.steps.Finishing.{IsFinishingOrder, IsTurnedOrder}
use Rattle.graph.proofs.RowsLemmas.{successors_of-set_same, successors_of-set_other, has_successor}
use Rattle.graph.proofs.ReachesLemmas.{Reaches-joined}

-- ---- the edges, as they are added

-- one edge more
edge_added : (graph : Rows) (from to a b : ℕ) → from < length graph
    → Contains (successors_of (set graph from (successors_of graph from ++ to ∷ [])) b) a
    ↔ (Contains (successors_of graph b) a ⊎ ((a ≡ to) × (b ≡ from)))
edge_added graph from to a b small = elim (cases_eq b from) [
  | inl e ↦ rw (e, successors_of-set_same graph from (successors_of graph from ++ to ∷ []) small) (
    λ h. elim (Contains-push_cases (successors_of graph from) to a h) [ inl o ↦ inl o | inr is ↦ inr (sym is, refl) ],
    λ h. elim h [
      | inl o ↦ Contains-append_left (successors_of graph from) (to ∷ []) a o
      | inr (is, _) ↦ rw is (Contains-push (successors_of graph from) to)
    ],
  )
  | inr n ↦ rw (successors_of-set_other graph from b (successors_of graph from ++ to ∷ []) n) (
    λ h. inl h,
    λ h. elim h [ inl o ↦ o | inr (_, is) ↦ absurd (n is) ],
  )
]

pub adds_edge : (old mid new : Rows) (row : List ℕ) (i to from : ℕ) → i < length row → from ≡ slice_index row i
    → from < length mid
    → new ≡ set mid from (successors_of mid from ++ to ∷ []) → AddsEdges old (take i row) to mid
    → AddsEdges old (take (i + 1) row) to new
adds_edge old mid new row i to from h e small is s = rw (is, take_more row i 0 h) (record {
  len = length-set mid from (successors_of mid from ++ to ∷ []) ∙ s.len;
  edges = λ a b. (let added = edge_added mid from to a b small in (
    λ p. elim (added.0 p) [
      | inl was ↦ elim ((s.edges a b).0 was) [
        | inl o ↦ inl o
        | inr (at, r) ↦ inr (at, Contains-append_left (take i row) (slice_index row i ∷ []) b r)
      ]
      | inr (at, r) ↦ inr (at, rw (r, e) (Contains-push (take i row) (slice_index row i)))
    ],
    λ p. elim p [
      | inl o ↦ added.1 (inl ((s.edges a b).1 (inl o)))
      | inr (at, r) ↦ elim (Contains-push_cases (take i row) (slice_index row i) b r) [
        | inl o ↦ added.1 (inl ((s.edges a b).1 (inr (at, o))))
        | inr is ↦ added.1 (inr (at, sym is ∙ sym e))
      ]
    ],
  ));
})

pub reverse_below_more : (graph old new : Rows) (v : ℕ) → IsReverseBelow graph old v
    → AddsEdges old (successors_of graph v) v new → IsReverseBelow graph new (v + 1)
reverse_below_more graph old new v s a = record {
  len = a.len ∙ s.len;
  edges = λ u b. (
    λ h. elim ((a.edges u b).0 h) [
      | inl o ↦ (let was = (s.edges u b).0 o in (omega (arith, was.0), was.1))
      | inr (is, row) ↦ (omega arith, rw is row)
    ],
    λ h. elim (cases_eq u v) [
      | inl is ↦ (a.edges u b).1 (inr (is, rw is at h.1))
      | inr n ↦ (a.edges u b).1 (inl ((s.edges u b).1 (omega (arith, h.0), h.1)))
    ],
  );
}

pub reverse_below_all : (graph back : Rows) (limit : ℕ) → length graph ≤ limit → IsReverseBelow graph back limit
    → IsReverse graph back
reverse_below_all graph back limit all s = record {
  len = s.len;
  edges = λ a b. (
    λ h. ((s.edges a b).0 h).1,
    λ h. (let small = has_successor graph a b h in (s.edges a b).1 (omega arith, h)),
  );
}

-- ---- what is reached

pub IsReverse-turned : (graph back : Rows) → IsReverse graph back → IsReverse back graph
IsReverse-turned graph back r = record { len = sym r.len; edges = λ a b. ((r.edges b a).1, (r.edges b a).0) }

pub Reaches-turned : (graph back : Rows) (a b : ℕ) → IsReverse graph back → Reaches graph a b → Reaches back b a
Reaches-turned graph back a b r itself = itself
Reaches-turned graph back a b r (along {a = d} p e) =
    Reaches-joined back b d a (along itself ((r.edges d b).1 e)) (Reaches-turned graph back a d r p)

pub AreMutual-turned : (graph back : Rows) (a b : ℕ) → IsReverse graph back → AreMutual graph a b → AreMutual back a b
AreMutual-turned graph back a b r (there, again) =
    (Reaches-turned graph back b a r again, Reaches-turned graph back a b r there)

pub finishing_turned : (graph back : Rows) (order : List ℕ) → IsReverse graph back → IsFinishingOrder graph order
    → IsTurnedOrder back order
finishing_turned graph back order r f = record {
  each = record {
    within = subst (λ (n : ℕ). All (λ v. v < n) order) (sym r.len) f.postorder.each.within;
    once = λ v small. f.postorder.each.once v (omega (arith, r.len));
  };
  reached = λ i u h p.
      elim (f.reached i u h (Reaches-turned back graph u (slice_index order i) (IsReverse-turned graph back r) p)) [
        | inl o ↦ inl o
        | inr (q, absent, both, further) ↦ inr (
          q,
          absent,
          AreMutual-turned graph back q (slice_index order i) r both,
          Reaches-turned graph back q u r further,
        )
      ];
}
