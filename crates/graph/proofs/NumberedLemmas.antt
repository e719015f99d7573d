-- Vertices that have numbers are whole components: one more component, and all.
use Rattle.std.proofs.Common.{◌≡◌, ℕ, zero, suc, ◌+◌, ◌<◌, ◌≤◌, ◌↔◌, ◌⊎◌, List, length, take, slice_index, inl, inr}
use Rattle.std.proofs.Common.{refl, sym, subst, arith, ◌∙◌}
use Rattle.std.proofs.lemmas.Bool.{cases_eq, cases_lt}
use Rattle.std.specs.List.{All, Contains}
use Rattle.std.proofs.lemmas.Grind.{common_steps}
use Rattle.std.proofs.lemmas.List.{length-take}
use Rattle.std.proofs.lemmas.List.Elements.{All-contains, All-get_or, All-from_get_or, Contains-get_or}
use Rattle.graph.specs.Rows.{Rows, successors_of}
use Rattle.graph.specs.Reaches.{Reaches, itself}
use Rattle.graph.specs.Seen.{AreDistinct}
use Rattle.graph.specs.Components.{AreMutual, Parts, AreComponents}
use Rattle.graph.specs.Order.{HasEachOnce}
use Rattle.graph.specs.steps.Reverse.{IsReverse}
use Rattle.graph.specs.steps.Finishing.{IsTurnedOrder}
use Rattle.graph.specs.steps.Numbering.{Gathering, Numbered, AreNumbered}
use Rattle.graph.proofs.SeenLemmas.{count_of-contains, places_counted}
use Rattle.graph.proofs.OrderLemmas.{place_of_member, place_in_front, has_vertex}
use Rattle.graph.proofs.RowsLemmas.{has_successor}
use Rattle.graph.proofs.ReachesLemmas.{Reaches-joined, Reaches-first}
use Rattle.graph.proofs.ReverseLemmas.{IsReverse-turned, AreMutual-turned}
use Rattle.graph.proofs.NumberingLemmas.{fresh_at, closed_reaches}

abbrev IsClosedList : Rows → List ℕ → Type 0
IsClosedList back items = (a b : ℕ) → Contains items a → Contains (successors_of back a) b → Contains items b

-- ---- what a root reaches reaches it

-- a vertex that reaches another is that one, or has a number below the length
reaching_is_vertex : (back : Rows) (q v : ℕ) → Reaches back q v → (q ≡ v) ⊎ (q < length back)
reaching_is_vertex back q v p = elim (Reaches-first back q v p) [
  | inl e ↦ inl e
  | inr (d, edge, _) ↦ inr (has_successor back q d edge)
]

-- a member of the front part stands there
in_front : (order : List ℕ) (k i : ℕ) → k < i → i ≤ length order → Contains (take i order) (slice_index order k)
in_front order k i less small = (k, rw length-take (omega arith), grind (arith, common_steps))

-- where it holds of those that stand later
reaches_again_step : (back : Rows) (order old : List ℕ) (place j : ℕ) → IsTurnedOrder back order → place < length order
    → IsClosedList back old
    → ((k : ℕ) → j < k → k < length order → (Contains old (slice_index order k) → ⊥)
    → Reaches back (slice_index order place) (slice_index order k)
    → Reaches back (slice_index order k) (slice_index order place))
    → j < place → (Contains old (slice_index order j) → ⊥)
    → Reaches back (slice_index order place) (slice_index order j)
    → Reaches back (slice_index order j) (slice_index order place)
reaches_again_step back order old place j turned within closed rest less fresh path =
    elim (turned.reached j root (omega arith) path) [
      | inl front ↦ absurd (not_before front)
      | inr (q, absent, both, further) ↦ through q absent both further (at_of q absent both)
    ]
  where
    root : ℕ
    root = slice_index order place

    v : ℕ
    v = slice_index order j

    root_small : root < length back
    root_small = All-get_or (λ u. u < length back) order place 0 within turned.each.within

    not_before : Contains (take (j + 1) order) root → ⊥
    not_before front =
        (let at = place_in_front order (j + 1) root front in
        omega (
          arith,
          turned.each.once root root_small,
          places_counted order at.0 place root (omega (arith, at.1)) within at.3 refl,
        ))

    at_of : (q : ℕ) → (Contains (take (j + 1) order) q → ⊥) → AreMutual back q v
        → (k : ℕ) × (k < length order) × (slice_index order k ≡ q)
    at_of q absent both = elim (reaching_is_vertex back q v both.0) [
      | inl is ↦ absurd (absent (rw is (in_front order j (j + 1) (omega arith) (omega arith))))
      | inr below ↦ place_of_member order q (has_vertex back order q turned.each below)
    ]

    through : (q : ℕ) → (Contains (take (j + 1) order) q → ⊥) → AreMutual back q v → Reaches back root q
        → (k : ℕ) × (k < length order) × (slice_index order k ≡ q)
        → Reaches back v root
    through q absent both further (k, below, is) = Reaches-joined back v q root both.1
        (subst (λ (u : ℕ). Reaches back u root) is
        (rest k beyond below
        (λ old_q. fresh (closed_reaches back old (slice_index order k) v closed old_q
        (subst (λ (u : ℕ). Reaches back u v) (sym is) both.0)))
        (subst (λ (u : ℕ). Reaches back root u) (sym is) further)))
      where
        beyond : j < k
        beyond = elim (cases_lt k (j + 1)) [
          | inl low ↦ absurd (absent (subst (λ (u : ℕ). Contains (take (j + 1) order) u) is
              (in_front order k (j + 1) low (omega arith))))
          | inr more ↦ omega arith
        ]

-- by how far before the root it stands
reaches_again_at : (back : Rows) (order old : List ℕ) (place : ℕ) → IsTurnedOrder back order → place < length order
    → ((k : ℕ) → place + 1 ≤ k → k < length order → Contains old (slice_index order k))
    → IsClosedList back old
    → (n j : ℕ) → place ≤ j + n → j < length order → (Contains old (slice_index order j) → ⊥)
    → Reaches back (slice_index order place) (slice_index order j)
    → Reaches back (slice_index order j) (slice_index order place)
reaches_again_at back order old place turned within later closed zero j near small fresh path =
    elim (cases_eq j place) [
      | inl is ↦ rw is itself
      | inr n ↦ absurd (fresh (later j (omega arith) small))
    ]
reaches_again_at back order old place turned within later closed (suc n) j near small fresh path =
    elim (cases_lt j place) [
      | inl less ↦ reaches_again_step back order old place j turned within closed
          (λ k more. reaches_again_at back order old place turned within later closed n k (omega arith))
          less fresh path
      | inr more ↦ elim (cases_eq j place) [
        | inl is ↦ rw is itself
        | inr other ↦ absurd (fresh (later j (omega arith) small))
      ]
    ]

-- a vertex without a number that a root reaches, where all after the root have numbers
reaches_again : (back : Rows) (order old : List ℕ) (place v : ℕ) → IsTurnedOrder back order → place < length order
    → ((k : ℕ) → place + 1 ≤ k → k < length order → Contains old (slice_index order k))
    → IsClosedList back old
    → v < length back → (Contains old v → ⊥) → Reaches back (slice_index order place) v
    → Reaches back v (slice_index order place)
reaches_again back order old place v turned within later closed small fresh path =
    let at = place_of_member order v (has_vertex back order v turned.each small) in
    subst (λ (u : ℕ). Reaches back u (slice_index order place)) at.2
    (reaches_again_at back order old place turned within later closed place at.0 (omega arith) at.1
    (λ h. fresh (subst (λ (u : ℕ). Contains old u) at.2 h))
    (subst (λ (u : ℕ). Reaches back (slice_index order place) u) (sym at.2) path))

-- ---- one more component

-- what a search has found anew
record Gathered (back : Rows) (root : ℕ) (old new numbers : List ℕ) (v : ℕ) : Type 0 where
  pub absent : Contains old v → ⊥
  pub number : slice_index numbers v ≡ length old
  pub reached : Reaches back root v
  pub closed : All (Contains new) (successors_of back v)
  pub grown : length old < length new
  pub small : v < length back

-- each member of a list after a search was there before, or was found
old_or_found : (back : Rows) (root : ℕ) (old before new numbers : List ℕ) (v : ℕ) → AreDistinct new
    → Gathering back root old before new numbers (length new)
    → Contains new v → Contains old v ⊎ Gathered back root old new numbers v
old_or_found back root old before new numbers v distinct g h = by_place (place_of_member new v h)
  where
    by_place : (k : ℕ) × (k < length new) × (slice_index new k ≡ v)
        → Contains old v ⊎ Gathered back root old new numbers v
    by_place (k, small, is) = elim (cases_lt k (length old)) [
      | inl less ↦ inl (subst (λ (u : ℕ). Contains old u) (sym (g.same k less) ∙ is) (Contains-get_or old k 0 less))
      | inr more ↦ inr (found k more small is)
    ]
      where
        found : (k : ℕ) → length old ≤ k → k < length new → slice_index new k ≡ v
            → Gathered back root old new numbers v
        found k more small is = record {
          absent = absent;
          number = rw is at (g.numbered k more small);
          reached = elim (g.sound v h) [ inl o ↦ absurd (absent o) | inr path ↦ path ];
          closed = rw is at (g.closed k more small);
          grown = omega arith;
          small = All-contains (λ u. u < length back) new v g.within h;
        }
          where
            absent : Contains old v → ⊥
            absent o = fresh_at back root old before new numbers (length new) k distinct g more small (rw is o)

pub numbered_next : (back : Rows) (order old before new numbers : List ℕ) (place : ℕ) → IsTurnedOrder back order
    → place < length order
    → ((k : ℕ) → place + 1 ≤ k → k < length order → Contains old (slice_index order k)) → AreDistinct new
    → length new ≤ length back
    → Gathering back (slice_index order place) old before new numbers (length new) → Numbered back old before
    → Numbered back new numbers
numbered_next back order old before new numbers place turned within later distinct few g n = record {
  distinct = distinct;
  few = few;
  within = g.within;
  closed = closed;
  rises = λ a b h e. rises a b e (either a h) (either b (closed a b h e));
  shared = λ a b p q. shared a b (either a p) (either b q);
  ascending = λ i j le h. elim (cases_lt j (length old)) [
    | inl less ↦ old_places i j le less
    | inr more ↦ elim (cases_lt i (length old)) [
      | inl less ↦ omega (arith, low_at i less, g.numbered j more h)
      | inr too ↦ omega (arith, g.numbered i too (omega arith), g.numbered j more h)
    ]
  ];
  low = λ v h. low v (either v h);
}
  where
    root : ℕ
    root = slice_index order place

    either : (v : ℕ) → Contains new v → Contains old v ⊎ Gathered back root old new numbers v
    either v h = old_or_found back root old before new numbers v distinct g h

    closed : (a b : ℕ) → Contains new a → Contains (successors_of back a) b → Contains new b
    closed a b h e = elim (either a h) [
      | inl o ↦ g.keeps b (n.closed a b o e)
      | inr f ↦ All-contains (Contains new) (successors_of back a) b f.closed e
    ]

    rises : (a b : ℕ) → Contains (successors_of back a) b → Contains old a ⊎ Gathered back root old new numbers a
        → Contains old b ⊎ Gathered back root old new numbers b
        → slice_index numbers b ≤ slice_index numbers a
    rises a b e (inl p) (inl q) = omega (arith, g.kept a p, g.kept b q, n.rises a b p e)
    rises a b e (inl p) (inr q) = absurd (q.absent (n.closed a b p e))
    rises a b e (inr p) (inl q) = omega (arith, p.number, g.kept b q, n.low b q)
    rises a b e (inr p) (inr q) = omega (arith, p.number, q.number)

    again : (v : ℕ) → Gathered back root old new numbers v → Reaches back v root
    again v f = reaches_again back order old place v turned within later n.closed f.small f.absent f.reached

    shared : (a b : ℕ) → Contains old a ⊎ Gathered back root old new numbers a
        → Contains old b ⊎ Gathered back root old new numbers b
        → (slice_index numbers a ≡ slice_index numbers b) ↔ AreMutual back a b
    shared a b (inl p) (inl q) = rw (g.kept a p, g.kept b q) (n.shared a b p q)
    shared a b (inl p) (inr q) = (
      λ e. absurd (omega (arith, g.kept a p, n.low a p, q.number)),
      λ both. absurd (q.absent (closed_reaches back old a b n.closed p both.0)),
    )
    shared a b (inr p) (inl q) = (
      λ e. absurd (omega (arith, g.kept b q, n.low b q, p.number)),
      λ both. absurd (p.absent (closed_reaches back old b a n.closed q both.1)),
    )
    shared a b (inr p) (inr q) = (
      λ e. (Reaches-joined back a root b (again a p) q.reached, Reaches-joined back b root a (again b q) p.reached),
      λ both. p.number ∙ sym q.number,
    )

    low : (v : ℕ) → Contains old v ⊎ Gathered back root old new numbers v → slice_index numbers v < length new
    low v (inl p) = omega (arith, g.kept v p, n.low v p, g.grows)
    low v (inr p) = omega (arith, p.number, p.grown)

    at_old : (k : ℕ) → k < length old
        → slice_index numbers (slice_index new k) ≡ slice_index before (slice_index old k)
    at_old k less = rw (g.same k less) (g.kept (slice_index old k) (Contains-get_or old k 0 less))

    low_at : (k : ℕ) → k < length old → slice_index numbers (slice_index new k) < length old
    low_at k less = omega (arith, at_old k less, n.low (slice_index old k) (Contains-get_or old k 0 less))

    old_places : (i j : ℕ) → i ≤ j → j < length old
        → slice_index numbers (slice_index new i) ≤ slice_index numbers (slice_index new j)
    old_places i j le less = omega (arith, at_old i (omega arith), at_old j less, n.ascending i j le less)

-- ---- none and all

pub numbered_all : (graph back : Rows) (parts : Parts) → IsReverse graph back → AreNumbered back parts
    → AreComponents graph parts
numbered_all graph back parts r s = record {
  len = s.len ∙ r.len;
  below = All-from_get_or (λ n. n < length graph) parts.numbers 0
      (λ v small. (let low = s.numbered.low v (s.all v (omega (arith, s.len))) in
      omega (arith, s.numbered.few, r.len)));
  never_falls = λ v b e.
      s.numbered.rises b v (s.all b (has_successor back b v ((r.edges v b).1 e))) ((r.edges v b).1 e);
  shared = λ u v p q.
      (let t = s.numbered.shared u v (s.all u (omega (arith, r.len))) (s.all v (omega (arith, r.len))) in (
        λ e. AreMutual-turned back graph u v (IsReverse-turned graph back r) (t.0 e),
        λ both. t.1 (AreMutual-turned graph back u v r both),
      ));
  each = record {
    within = subst (λ (m : ℕ). All (λ v. v < m) parts.order) r.len s.numbered.within;
    once = λ v small.
        omega (arith, s.numbered.distinct v, count_of-contains parts.order v (s.all v (omega (arith, r.len))));
  };
  ascending = s.numbered.ascending;
}

-- where all of an order have numbers, all vertices do
pub later_all : (back : Rows) (order items : List ℕ) (v : ℕ) → HasEachOnce back order
    → ((k : ℕ) → 0 ≤ k → k < length order → Contains items (slice_index order k))
    → v < length back → Contains items v
later_all back order items v each later small =
    let at = place_of_member order v (has_vertex back order v each small) in
    subst (λ (u : ℕ). Contains items u) at.2 (later at.0 (omega arith) at.1)

-- one more of an order has a number
pub later_more : (order old new : List ℕ) (place : ℕ) → ((x : ℕ) → Contains old x → Contains new x)
    → Contains new (slice_index order place)
    → ((k : ℕ) → place + 1 ≤ k → k < length order → Contains old (slice_index order k))
    → (k : ℕ) → place ≤ k → k < length order → Contains new (slice_index order k)
later_more order old new place keeps here later k low high = elim (cases_eq k place) [
  | inl is ↦ rw is here
  | inr other ↦ keeps (slice_index order k) (later k (omega arith) high)
]
