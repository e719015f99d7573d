-- The first of the classes above another one that has something, found by asking where each that has it stands.
use Rattle.std.proofs.Common.{◌≡◌, ◌<◌, ◌≤◌, ◌+◌, ℕ, zero, suc, true, eqb, List, [], ◌∷◌, ◌++◌}
use Rattle.std.proofs.Common.{Option, Some, None, slice_get, refl, sym, ap, ◌∙◌, subst, inl, inr, arith}
use Rattle.std.specs.List.{Contains}
use Rattle.std.proofs.lemmas.Bool.{eq-eqb}
use Rattle.std.proofs.lemmas.List.Elements.{Contains-push_cases}
use Rattle.std.proofs.lemmas.List.Sums.{sum_by-cons}
use Rattle.graph.specs.Seen.{AreDistinct, count_of}
use Rattle.graph.proofs.SeenLemmas.{one_if, one_if_same, count_of-contains}
use Rattle.loading.proofs.PlaceLemmas.{contains_at}
use Rattle.hierarchy.specs.steps.Above.{first_with}
use Rattle.hierarchy.specs.steps.Ancestors.{Stands, IsFirst}
use Rattle.hierarchy.specs.declared.ancestors.PlacedMember.{PlacedMember}

-- ---- where a number stands

count_of-cons : (y : ℕ) (ys : List ℕ) (x : ℕ) → count_of (y ∷ ys) x ≡ one_if (eqb y x) + count_of ys x
count_of-cons y ys x = sum_by-cons (λ (y : ℕ). one_if (eqb y x)) y ys

nowhere_in_empty : (i c : ℕ) → slice_get [] i ≡ Some c → ⊥
nowhere_in_empty i c at = (let in_none = contains_at [] i c at in omega (arith, in_none.1))

stands_once : (x : ℕ) (xs : List ℕ) (j c : ℕ) → AreDistinct (x ∷ xs) → x ≡ c → slice_get xs j ≡ Some c → ⊥
stands_once x xs j c once is at =
    omega (
      arith,
      once c,
      count_of-cons x xs c,
      one_if_same (eqb x c) true (eq-eqb x c is),
      count_of-contains xs c (contains_at xs j c at),
    )

pub one_place : (items : List ℕ) (i j c : ℕ) → AreDistinct items → slice_get items i ≡ Some c
    → slice_get items j ≡ Some c → i ≡ j
one_place [] i j c once a b = absurd (nowhere_in_empty i c a)
one_place (x ∷ xs) zero zero c once a b = refl
one_place (x ∷ xs) zero (suc j) c once a b = absurd (let is : x ≡ c = cc in stands_once x xs j c once is b)
one_place (x ∷ xs) (suc i) zero c once a b = absurd (let is : x ≡ c = cc in stands_once x xs i c once is a)
one_place (x ∷ xs) (suc i) (suc j) c once a b =
    ap suc (one_place xs i j c (λ (y : ℕ). omega (arith, once y, count_of-cons x xs y)) a b)

-- ---- one more class is asked

module _ (own : ℕ → Option ℕ) (items asked : List ℕ) (first : Option PlacedMember)
    (are : IsFirst own items asked first) where
  pub first_stays : (c : ℕ)
      → ((q k : ℕ) → slice_get items q ≡ Some c → own c ≡ Some k → (s : PlacedMember) × (first ≡ Some s) × (s.place ≤
      q))
      → IsFirst own items (asked ++ c ∷ []) first
  first_stays c known = record {
    stands = are.stands;
    least = λ q d k among at has. elim (Contains-push_cases asked c d among) [
      | inl before ↦ are.least q d k before at has
      | inr last ↦
          known q k (subst (λ (n : ℕ). slice_get items q ≡ Some n) (sym last) at)
          (subst (λ (n : ℕ). own n ≡ Some k) (sym last) has)
    ];
  }

  pub first_moves : (c k place : ℕ) → AreDistinct items → slice_get items place ≡ Some c → own c ≡ Some k
      → ((s : PlacedMember) → first ≡ Some s → place < s.place)
      → IsFirst own items (asked ++ c ∷ []) (Some (record { place = place; member = record { class = c; index = k } }))
  first_moves c k place once there has further = record {
    stands = λ s is.
        let equal : record { place = place; member = record { class = c; index = k } } ≡ s = cc in
        subst (Stands own items) equal (there, has);
    least = λ q d j among at holds. elim (Contains-push_cases asked c d among) [
      | inl before ↦ (let old = are.least q d j before at holds in (
        record { place = place; member = record { class = c; index = k } },
        refl,
        omega (arith, further old.0 old.1, old.2),
      ))
      | inr last ↦ (let alike : place ≡ q =
          one_place items place q c once there (subst (λ (n : ℕ). slice_get items q ≡ Some n) (sym last) at) in
          (record { place = place; member = record { class = c; index = k } }, refl, omega (arith, alike)))
    ];
  }

  -- one that is none of the items
  pub first_without : (c : ℕ) → ¬ Contains items c → IsFirst own items (asked ++ c ∷ []) first
  first_without c out = first_stays c (λ q k at has. absurd (out (contains_at items q c at)))

  -- one that has nothing
  pub first_lacking : (c : ℕ) → own c ≡ None → IsFirst own items (asked ++ c ∷ []) first
  first_lacking c lacks = first_stays c (λ q k at has. absurd (let clash : None ≡ Some k = sym lacks ∙ has in cc))

  -- one that stands behind what was found
  pub first_before : (c place : ℕ) → AreDistinct items → slice_get items place ≡ Some c
      → ((s : PlacedMember) × (first ≡ Some s) × (s.place ≤ place)) → IsFirst own items (asked ++ c ∷ []) first
  first_before c place once there found = first_stays c (λ q k at has.
      (found.0, found.1, omega (arith, found.2, one_place items place q c once there at)))

pub first_of_none : (own : ℕ → Option ℕ) (items : List ℕ) → IsFirst own items [] None
first_of_none own items = record {
  stands = λ s is. absurd cc;
  least = λ q c k among at has. absurd (omega (arith, among.1));
}

-- ---- when all were asked

first_at : (own : ℕ → Option ℕ) (items : List ℕ) (p c k : ℕ) → slice_get items p ≡ Some c → own c ≡ Some k
    → ((q d : ℕ) → q < p → slice_get items q ≡ Some d → own d ≡ None)
    → first_with own items ≡ Some (record { class = c; index = k })
first_at own [] p c k at has before = absurd (nowhere_in_empty p c at)
first_at own (x ∷ xs) zero c k at has before =
    let is : x ≡ c = cc in
    let holds : own x ≡ Some k = ap own is ∙ has in
    rw holds (ap (λ (n : ℕ). Some (record { class = n; index = k })) is)
first_at own (x ∷ xs) (suc p) c k at has before =
    rw (before 0 x (omega arith) refl)
    (first_at own xs p c k at has (λ q d small there. before (suc q) d (omega (arith, small)) there))

none_at_all : (own : ℕ → Option ℕ) (items : List ℕ) → ((q c : ℕ) → slice_get items q ≡ Some c → own c ≡ None)
    → first_with own items ≡ None
none_at_all own [] lack = refl
none_at_all own (x ∷ xs) lack = rw (lack 0 x refl) (none_at_all own xs (λ q c at. lack (suc q) c at))

none_unless : (o : Option ℕ) → ((k : ℕ) → o ≡ Some k → ⊥) → o ≡ None
none_unless None never = refl
none_unless (Some k) never = absurd (never k refl)

module _ (own : ℕ → Option ℕ) (items asked : List ℕ) (whole : (c k : ℕ) → own c ≡ Some k → Contains asked c) where
  pub first_is : (s : PlacedMember) → IsFirst own items asked (Some s) → Some s.member ≡ first_with own items
  first_is s are =
      let stands = are.stands s refl in
      sym (first_at own items s.place s.member.class s.member.index stands.0 stands.1
      (λ q d small at. none_unless (own d)
      (λ k has. (let least = are.least q d k (whole d k has) at has in
      let alike : s ≡ least.0 = cc in
      omega (arith, small, least.2, ap (λ (x : PlacedMember). x.place) alike)))))

  pub none_is_first : IsFirst own items asked None → None ≡ first_with own items
  none_is_first are =
      sym (none_at_all own items
      (λ q d at. none_unless (own d) (λ k has. (let least = are.least q d k (whole d k has) at has in absurd cc))))
