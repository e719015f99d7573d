-- Components get numbers, one search over the graph with its edges turned round after the other.
use Rattle.std.proofs.Common.{◌≡◌, ℕ, ◌+◌, ◌<◌, ◌≤◌, Bool, true, false, List, [], ◌∷◌, length}
use Rattle.std.proofs.Common.{set, slice_index, inl, inr, refl, subst, arith, ◌∙◌, ap}
use Rattle.std.proofs.lemmas.Bool.{cases_eq, cases_lt}
use Rattle.std.specs.List.{All, Contains}
use Rattle.std.proofs.lemmas.Grind.{common_steps}
use Rattle.std.proofs.lemmas.List.{length_push}
use Rattle.std.proofs.lemmas.List.Elements.{All-push, All-contains, All-contains_itself, All-get_or, All-weaker}
use Rattle.std.proofs.lemmas.List.Elements.{Contains-get_or, Contains-append_left, Contains-push, Contains-push_cases}
use Rattle.graph.specs.Rows.{Rows, successors_of}
use Rattle.graph.specs.Reaches.{Reaches, itself, along}
use Rattle.graph.specs.Seen.{AreDistinct, Joins}
use Rattle.graph.specs.steps.Adds.{Adds}
use Rattle.graph.specs.steps.Numbering.{Gathering}
use Rattle.graph.proofs.SeenLemmas.{places_counted}
use Rattle.graph.proofs.OrderLemmas.{place_of_member}

-- a number stands at no two places
pub apart : (items : List ℕ) (i j : ℕ) → AreDistinct items → i < j → j < length items
    → slice_index items i ≡ slice_index items j → ⊥
apart items i j distinct less small e =
    omega (arith, distinct (slice_index items j), places_counted items i j (slice_index items j) less small e refl)

-- what is reached from a list that is closed along edges is there
pub closed_reaches : (back : Rows) (items : List ℕ) (a b : ℕ)
    → ((a b : ℕ) → Contains items a → Contains (successors_of back a) b → Contains items b)
    → Contains items a → Reaches back a b → Contains items b
closed_reaches back items a b closed h itself = h
closed_reaches back items a b closed h (along {a = d} p e) =
    closed d b (closed_reaches back items a d closed h p) e

-- ---- one component

pub gathering_first : (back : Rows) (root : ℕ) (old before items : List ℕ) (fresh : Bool) → root < length back
    → All (λ v. v < length back) old → Joins fresh old root items
    → Gathering back root old before items before (length old)
gathering_first back root old before items true small within (absent, s) = rw s (record {
  starts = Contains-push old root;
  grows = rw length_push (omega arith);
  same = λ k h. grind (arith, common_steps);
  keeps = λ x h. Contains-append_left old (root ∷ []) x h;
  within = All-push (λ v. v < length back) old root within small;
  sound = λ x h. elim (Contains-push_cases old root x h) [
    | inl o ↦ inl o
    | inr is ↦ inr (subst (λ (y : ℕ). Reaches back root y) is itself)
  ];
  later = omega arith;
  up_to = rw length_push (omega arith);
  closed = λ k low high. absurd (omega arith);
  numbered = λ k low high. absurd (omega arith);
  kept = λ v h. refl;
})
gathering_first back root old before items false small within (was, s) = rw s (record {
  starts = was;
  grows = omega arith;
  same = λ k h. refl;
  keeps = λ x h. h;
  within = within;
  sound = λ x h. inl h;
  later = omega arith;
  up_to = omega arith;
  closed = λ k low high. absurd (omega arith);
  numbered = λ k low high. absurd (omega arith);
  kept = λ v h. refl;
})

-- what is looked at is not among the old
pub fresh_at : (back : Rows) (root : ℕ) (old before items numbers : List ℕ) (next k : ℕ) → AreDistinct items
    → Gathering back root old before items numbers next
    → length old ≤ k → k < length items → Contains old (slice_index items k) → ⊥
fresh_at back root old before items numbers next k distinct g low small h =
    let at = place_of_member old (slice_index items k) h in
    apart items at.0 k distinct (omega (arith, at.1)) small (g.same at.0 at.1 ∙ at.2)

set_here : (xs : List ℕ) (i n : ℕ) → i < length xs → slice_index (set xs i n) i ≡ n
set_here xs i n h = grind (arith, common_steps)

set_else : (xs : List ℕ) (i j n : ℕ) → (j ≡ i → ⊥) → slice_index (set xs i n) j ≡ slice_index xs j
set_else xs i j n other = grind (arith, common_steps)

pub gathering_next : (back : Rows) (root : ℕ) (old before items numbers new : List ℕ) (next : ℕ) → next < length items
    → AreDistinct items → length numbers ≡ length back
    → All (λ v. v < length back) (successors_of back (slice_index items next))
    → Gathering back root old before items numbers next
    → Adds items (successors_of back (slice_index items next)) new
    → Gathering back root old before new (set numbers (slice_index items next) (length old)) (next + 1)
gathering_next back root old before items numbers new next small distinct len row g a = record {
  starts = a.keeps root g.starts;
  grows = omega (arith, g.grows, a.grows);
  same = λ k h. a.same k (omega (arith, g.grows)) ∙ g.same k h;
  keeps = λ x h. a.keeps x (g.keeps x h);
  within = All-weaker (Contains new) (λ v. v < length back)
      (λ x p. elim (a.only x p) [
        | inl o ↦ All-contains (λ v. v < length back) items x g.within o
        | inr r ↦ All-contains (λ v. v < length back) (successors_of back v) x row r
      ]) new (All-contains_itself new);
  sound = λ x p. elim (a.only x p) [
    | inl o ↦ g.sound x o
    | inr r ↦ elim (g.sound v (Contains-get_or items next 0 small)) [
      | inl was ↦ absurd (fresh was)
      | inr path ↦ inr (along path r)
    ]
  ];
  later = omega (arith, g.later);
  up_to = omega (arith, a.grows);
  closed = λ k low high. rw (a.same k (omega arith)) (elim (cases_lt k next) [
    | inl less ↦ All-weaker (Contains items) (Contains new) (λ x p. a.keeps x p) _ (g.closed k low less)
    | inr more ↦ rw (last k high more) a.added
  ]);
  numbered = λ k low high. rw (a.same k (omega arith)) (elim (cases_eq (slice_index items k) v) [
    | inl is ↦ rw is (set_here numbers v (length old) v_small)
    | inr n ↦ set_else numbers v (slice_index items k) (length old) n ∙ g.numbered k low (before_last k high n)
  ]);
  kept = λ u h. set_else numbers v u (length old) (λ is. fresh (subst (λ (y : ℕ). Contains old y) is h)) ∙ g.kept u h;
}
  where
    v : ℕ
    v = slice_index items next

    fresh : Contains old v → ⊥
    fresh h = fresh_at back root old before items numbers next next distinct g g.later small h

    v_small : v < length numbers
    v_small = omega (arith, All-get_or (λ u. u < length back) items next 0 small g.within)

    last : (k : ℕ) → k < next + 1 → next ≤ k → k ≡ next
    last k h more = omega arith

    before_last : (k : ℕ) → k < next + 1 → (slice_index items k ≡ v → ⊥) → k < next
    before_last k h n = elim (cases_eq k next) [
      | inl is ↦ absurd (n (ap (λ (j : ℕ). slice_index items j) is))
      | inr other ↦ omega arith
    ]
