-- Flags beside the members that they flag.
use Rattle.std.proofs.Common.{◌≡◌, ℕ, ◌<◌, ◌≤◌, ◌⊎◌, Bool, true, false, List, [], ◌∷◌, ◌++◌, length, get_or, set, inl}
use Rattle.std.proofs.Common.{inr, refl, sym, ap, subst, arith, ◌∙◌}
use Rattle.std.proofs.lemmas.Bool.{cases_eq, cases_lt}
use Rattle.std.specs.List.{Contains}
use Rattle.std.proofs.lemmas.Grind.{common_steps}
use Rattle.std.proofs.lemmas.List.{length_push}
use Rattle.std.proofs.lemmas.List.Elements.{Contains-push}
use Rattle.std.proofs.lemmas.List.Sums.{sum_by-set, count_by-le-length}
use Rattle.std.specs.Prelude.{IsTrue, ◌↔◌}
use Rattle.graph.specs.Seen.{Seen, AreDistinct, count_of}
use Rattle.graph.specs.steps.Flags.{IsVisited}
use Rattle.graph.proofs.SeenLemmas.{one_if, one_if_same, count_of-push_same, count_of-push_other, count_of-contains}
use Rattle.graph.proofs.SeenLemmas.{Contains-counted}

-- what is flagged is a member
pub flagged_is_member : (flags : List Bool) (order : List ℕ) (m : ℕ) → IsVisited flags order
    → get_or flags m false ≡ true → Contains order m
flagged_is_member flags order m v e =
    Contains-counted order m (omega (arith, v.counted m, one_if_same (get_or flags m false) true e))

pub member_is_flagged : (flags : List Bool) (order : List ℕ) (m : ℕ) → IsVisited flags order → Contains order m
    → get_or flags m false ≡ true
member_is_flagged flags order m v h = by_flag (get_or flags m false) refl
  where
    by_flag : (b : Bool) → get_or flags m false ≡ b → b ≡ true
    by_flag true e = refl
    by_flag false e =
        absurd (omega (arith, v.counted m, count_of-contains order m h, one_if_same (get_or flags m false) false e))

pub flagged_is_below : (flags : List Bool) (m : ℕ) → get_or flags m false ≡ true → m < length flags
flagged_is_below flags m e = by_order (cases_lt m (length flags))
  where
    past : (flags : List Bool) (m : ℕ) → length flags ≤ m → get_or flags m false ≡ false
    past flags m h = grind (arith, common_steps)

    by_order : (m < length flags) ⊎ (length flags ≤ m) → m < length flags
    by_order (inl less) = less
    by_order (inr more) = absurd (let f : get_or flags m false ≡ false = past flags m more in cc)

pub visited_distinct : (flags : List Bool) (order : List ℕ) → IsVisited flags order → AreDistinct order
visited_distinct flags order v x = by_flag (get_or flags x false) refl
  where
    by_flag : (b : Bool) → get_or flags x false ≡ b → count_of order x ≤ 1
    by_flag true e = omega (arith, v.counted x, one_if_same (get_or flags x false) true e)
    by_flag false e = omega (arith, v.counted x, one_if_same (get_or flags x false) false e)

pub visited_small : (flags : List Bool) (order : List ℕ) → IsVisited flags order → length order ≤ length flags
visited_small flags order v = omega (arith, v.total, count_by-le-length (λ (b : Bool). b) flags)

set_here : (flags : List Bool) (m : ℕ) (b : Bool) → m < length flags → get_or (set flags m b) m false ≡ b
set_here flags m b h = grind (arith, common_steps)

set_else : (flags : List Bool) (m x : ℕ) (b : Bool) → (m ≡ x → ⊥)
    → get_or (set flags m b) x false ≡ get_or flags x false
set_else flags m x b n = grind (arith, common_steps)

-- a number is flagged and joins
pub visited_push : (flags : List Bool) (order new : List ℕ) (m : ℕ) → m < length flags → get_or flags m false ≡ false
    → new ≡ order ++ m ∷ []
    → IsVisited flags order → IsVisited (set flags m true) new
visited_push flags order new m h clear e v = rw e (record {
  total = omega (
    arith,
    sum_by-set one_if flags m true false h,
    v.total,
    one_if_same (get_or flags m false) false clear,
    length_push order m,
  );
  counted = λ x. elim (cases_eq m x) [
    | inl same ↦ rw (sym same)
        (omega (
          arith,
          v.counted m,
          one_if_same (get_or flags m false) false clear,
          count_of-push_same order m,
          one_if_same (get_or (set flags m true) m false) true (set_here flags m true h),
        ))
    | inr other ↦ omega (
      arith,
      v.counted x,
      count_of-push_other order m x other,
      one_if_same (get_or (set flags m true) x false) (get_or flags x false) (set_else flags m x true other),
    )
  ];
})

-- the last member loses its flag
pub visited_pop : (flags : List Bool) (order rest : List ℕ) (m : ℕ) → m < length flags → order ≡ rest ++ m ∷ []
    → IsVisited flags order → IsVisited (set flags m false) rest
visited_pop flags order rest m h e v =
    let flagged : get_or flags m false ≡ true = member_is_flagged flags order m v (rw e (Contains-push rest m)) in
    let was = rw e at v in
    record {
      total =
          omega (
            arith,
            sum_by-set one_if flags m false false h,
            was.total,
            one_if_same (get_or flags m false) true flagged,
            length_push rest m,
          );
      counted = λ x. elim (cases_eq m x) [
        | inl same ↦ rw (sym same)
            (omega (
              arith,
              was.counted m,
              one_if_same (get_or flags m false) true flagged,
              count_of-push_same rest m,
              one_if_same (get_or (set flags m false) m false) false (set_here flags m false h),
            ))
        | inr other ↦ omega (
          arith,
          was.counted x,
          count_of-push_other rest m x other,
          one_if_same (get_or (set flags m false) x false) (get_or flags x false) (set_else flags m x false other),
        )
      ];
    }

pub member_is_below : (flags : List Bool) (order : List ℕ) (m : ℕ) → IsVisited flags order → Contains order m
    → m < length flags
member_is_below flags order m v h = flagged_is_below flags m (member_is_flagged flags order m v h)

-- a flag tells whether a number is a member
pub flag_tells : (flags : List Bool) (s : Seen) (order : List ℕ) (m : ℕ) (b : Bool)
    → record { limit = length flags; items = order } ≡ s → IsVisited flags order
    → b ≡ get_or flags m false → IsTrue b ↔ Contains s.items m
flag_tells flags s order m b e v read =
    let items : order ≡ s.items = ap (λ (s : Seen). s.items) e in
    subst (λ (xs : List ℕ). IsTrue b ↔ Contains xs m) items (
      λ h. flagged_is_member flags order m v (sym read ∙ h),
      λ h. read ∙ member_is_flagged flags order m v h,
    )
