-- The one default of a class, as a function.
use Rattle.std.proofs.Common.{◌≡◌, ℕ, zero, suc, ◌+◌, ◌<◌, ◌≤◌, Bool, true, false, cond, ◌&&◌, ◌||◌, not, List, [], ◌∷◌}
use Rattle.std.proofs.Common.{length, Option, Some, None, is_some, refl, sym, ap, ◌∙◌, subst, inl, inr, arith}
use Rattle.std.specs.Bool.{Decides}
use Rattle.std.specs.List.{All, Contains, filter, list_any, range_with_len}
use Rattle.std.proofs.lemmas.Bool.{cases_eq}
use Rattle.std.proofs.lemmas.Bool.Decides.{Decides-and, Decides-not, Decides-like}
use Rattle.std.proofs.lemmas.List.Elements.{filter_passes, recursion_from_All}
use Rattle.built_in.specs.Keys.{NameAndType}
use Rattle.loading.specs.Families.{Family, IsFamily, IsAncestor, AreParentsWithin}
use Rattle.hierarchy.specs.MemberLookup.{interface_method_in, keep_if, flags_in, is_abstract}
use Rattle.hierarchy.specs.MemberLookup.{IsCandidate, IsMaximallySpecific, IsDefault, IsTheDefault, HasNoDefault}
use Rattle.hierarchy.specs.Selection.{is_candidate, is_maximally_specific, has_default, concrete_method_in}
use Rattle.hierarchy.specs.Selection.{given_classes, only_one, the_default, method_at, declared_by}
use Rattle.hierarchy.specs.Subclasses.{is_above}
use Rattle.hierarchy.specs.declared.member.Method.TheVariants as method
use Rattle.hierarchy.proofs.InitializationLemmas.{ancestor_within}
use Rattle.hierarchy.proofs.SubclassesLemmas.{above_tells}

-- ---- lists of numbers

in_range : (j a n : ℕ) → a ≤ j → j < a + n → Contains (range_with_len a n) j
in_range j a zero low high = absurd (omega (arith, low, high))
in_range j a (suc n) low high = elim (cases_eq a j) [
  | inl same ↦ (0, omega arith, same)
  | inr other ↦ (let next : a + 1 ≤ j = omega (arith, low, other) in
      let rest = in_range j (a + 1) n next (omega (arith, high)) in
      (suc rest.0, omega (arith, rest.1), rest.2))
]

passes_any : (p : ℕ → Bool) (xs : List ℕ) (x : ℕ) → Contains xs x → p x ≡ true → list_any p xs ≡ true
passes_any p [] x (k, small, at) is = absurd (omega (arith, small))
passes_any p (y ∷ ys) x (zero, small, at) is =
    let here : p y ≡ true = ap p at ∙ is in
    ap (λ (b : Bool). b || list_any p ys) here
passes_any p (y ∷ ys) x (suc k, small, at) is = by (p y) (passes_any p ys x (k, omega (arith, small), at) is)
  where
    by : (b : Bool) → list_any p ys ≡ true → (b || list_any p ys) ≡ true
    by true rest = refl
    by false rest = rest

some_passes : (p : ℕ → Bool) (xs : List ℕ) → list_any p xs ≡ true → (x : ℕ) × (p x ≡ true)
some_passes p [] is = absurd cc
some_passes p (y ∷ ys) is = by (p y) refl is (some_passes p ys)
  where
    by : (b : Bool) → p y ≡ b → (b || list_any p ys) ≡ true → (list_any p ys ≡ true → (x : ℕ) × (p x ≡ true))
        → (x : ℕ) × (p x ≡ true)
    by true here is rest = (y, here)
    by false here is rest = rest is

stays : (p : ℕ → Bool) (xs : List ℕ) (x : ℕ) → Contains xs x → p x ≡ true → Contains (filter p xs) x
stays p [] x (k, small, at) is = absurd (omega (arith, small))
stays p (y ∷ ys) x (zero, small, at) is =
    let here : p y ≡ true = ap p at ∙ is in
    subst (λ (b : Bool). Contains (cond b (y ∷ filter p ys) (filter p ys)) x) (sym here) (0, omega arith, at)
stays p (y ∷ ys) x (suc k, small, at) is = by (p y) (stays p ys x (k, omega (arith, small), at) is)
  where
    by : (b : Bool) → Contains (filter p ys) x → Contains (cond b (y ∷ filter p ys) (filter p ys)) x
    by true rest = (suc rest.0, omega (arith, rest.1), rest.2)
    by false rest = rest

-- one number alone passes a test
module _ (p : ℕ → Bool) (i : ℕ) (passes : p i ≡ true) (alone : (j : ℕ) → p j ≡ true → j ≡ i) where
  none_left : (a n : ℕ) → i < a → filter p (range_with_len a n) ≡ []
  none_left a zero low = refl
  none_left a (suc n) low = by (p a) refl (none_left (a + 1) n (omega (arith, low)))
    where
      by : (b : Bool) → p a ≡ b → filter p (range_with_len (a + 1) n) ≡ []
          → cond b (a ∷ filter p (range_with_len (a + 1) n)) (filter p (range_with_len (a + 1) n)) ≡ []
      by true is rest = absurd (omega (arith, low, alone a is))
      by false is rest = rest

  one_left : (a n : ℕ) → a ≤ i → i < a + n → filter p (range_with_len a n) ≡ i ∷ []
  one_left a zero low high = absurd (omega (arith, low, high))
  one_left a (suc n) low high = by (p a) refl (one_left (a + 1) n)
    where
      by : (b : Bool) → p a ≡ b
          → (a + 1 ≤ i → i < a + 1 + n → filter p (range_with_len (a + 1) n) ≡ i ∷ [])
          → cond b (a ∷ filter p (range_with_len (a + 1) n)) (filter p (range_with_len (a + 1) n)) ≡ i ∷ []
      by true is rest =
          let same : a ≡ i = alone a is in
          ap (λ (xs : List ℕ). a ∷ xs) (none_left (a + 1) n (omega (arith, same)))
          ∙ ap (λ (x : ℕ). x ∷ []) same
      by false is rest =
          let other : a ≡ i → ⊥ =
          λ same. (let clash : true ≡ false = sym passes ∙ ap p (sym same) ∙ is in cc) in
          rest (omega (arith, low, other)) (omega (arith, high))

only_in : {x j : ℕ} → Contains (x ∷ []) j → x ≡ j
only_in (zero, small, at) = at
only_in (suc k, small, at) = absurd (omega (arith, small))

-- ---- tests of interfaces

is_there : (o : Option ℕ) → Decides (is_some o) ((k : ℕ) × (o ≡ Some k))
is_there None = (λ is. absurd cc, λ at. absurd cc)
is_there (Some k) = (λ is. (k, refl), λ at. refl)

is_kept : (test : ℕ → Bool) (flags : ℕ → ℕ) (o : Option ℕ)
    → Decides (is_some (keep_if test flags o)) ((k : ℕ) × (o ≡ Some k) × (test (flags k) ≡ true))
is_kept test flags None = (λ is. absurd cc, λ at. absurd cc)
is_kept test flags (Some k) = by (test (flags k)) refl
  where
    by : (b : Bool) → test (flags k) ≡ b
        → Decides (is_some (cond b (Some k) None)) ((l : ℕ) × (Some k ≡ Some l) × (test (flags l) ≡ true))
    by true is = (λ yes. (k, refl, is), λ at. refl)
    by false is = (
      λ yes. absurd cc,
      λ at.
          let same : k ≡ at.0 = cc in
          let clash : false ≡ true = sym is ∙ ap (λ (l : ℕ). test (flags l)) same ∙ at.2 in
          absurd cc,
    )

concrete : (b : Bool) → not b ≡ true → b ≡ false
concrete true e = absurd cc
concrete false e = refl

module _ (family : Family) (key : NameAndType) (c : ℕ) (fits : IsFamily family) (within : AreParentsWithin family) where
  candidate_decides : (i : ℕ) → Decides (is_candidate family key c i) ((k : ℕ) × IsCandidate family key c i k)
  candidate_decides i =
      let above = above_tells family c i fits within in
      Decides-like (is_candidate family key c i)
      (λ both. (both.1.0, (both.0, both.1.1)))
      (λ is. (is.1.0, (is.0, is.1.1)))
      (Decides-and (is_above family c i) (is_some (interface_method_in family key i))
      (above.1, above.0) (is_there (interface_method_in family key i)))

  -- another candidate stands below one
  abbrev overrides : ℕ → ℕ → Bool
  overrides i j = is_candidate family key c j && is_above family j i

  overriding_decides : (i j : ℕ) → Decides (overrides i j)
      (((l : ℕ) × IsCandidate family key c j l) × IsAncestor family j i)
  overriding_decides i j =
      let above = above_tells family j i fits within in
      Decides-and (is_candidate family key c j) (is_above family j i) (candidate_decides j) (above.1, above.0)

  any_overrides : (i : ℕ) → Decides (list_any (overrides i) (given_classes family))
      ((j : ℕ) × (l : ℕ) × IsCandidate family key c j l × IsAncestor family j i)
  any_overrides i = (
    λ any.
        let some = some_passes (overrides i) (given_classes family) any in
        let is = (overriding_decides i some.0).0 some.1 in
        (some.0, is.0.0, is.0.1, is.1),
    λ some.
        passes_any (overrides i) (given_classes family) some.0
        (in_range some.0 0 (length family) (omega arith)
        (omega (arith, ancestor_within family within some.2.0)))
        ((overriding_decides i some.0).1 ((some.1, some.2), some.3)),
  )

  specific_decides : (i : ℕ) → Decides (is_maximally_specific family key c i)
      ((k : ℕ) × IsMaximallySpecific family key c i k)
  specific_decides i =
      Decides-like (is_maximally_specific family key c i)
      (λ both. (both.0.0, (both.0.1, λ j l is above. both.1 (j, l, is, above))))
      (λ is. ((is.0, is.1.0), λ some. is.1.1 some.0 some.1 some.2 some.3))
      (Decides-and (is_candidate family key c i) (not (list_any (overrides i) (given_classes family)))
      (candidate_decides i)
      (Decides-not (list_any (overrides i) (given_classes family)) (any_overrides i)))

  default_decides : (i : ℕ) → Decides (has_default family key c i) ((k : ℕ) × IsDefault family key c i k)
  default_decides i =
      Decides-like (has_default family key c i)
      (λ both.
      let places : Some both.0.0 ≡ Some both.1.0 = sym both.0.1.0.1 ∙ both.1.1 in
      let same : both.0.0 ≡ both.1.0 = cc in (
        both.0.0,
        (
          both.0.1,
          ap (λ (k : ℕ). is_abstract (flags_in family i k)) same
              ∙ concrete (is_abstract (flags_in family i both.1.0)) both.1.2,
        ),
      ))
      (λ is. ((is.0, is.1.0), (is.0, is.1.0.0.1, ap not is.1.1)))
      (Decides-and (is_maximally_specific family key c i) (is_some (concrete_method_in family key i))
      (specific_decides i)
      (is_kept (λ flags. not (is_abstract flags)) (flags_in family i) (interface_method_in family key i)))

  -- ---- the only one

  pub the_default_is : (i k : ℕ) → IsTheDefault family key c i k
      → the_default family key c ≡ Some (method.Given i k)
  the_default_is i k (is, only) =
      let passes : has_default family key c i ≡ true = (default_decides i).1 (k, is) in
      let alone : (j : ℕ) → has_default family key c j ≡ true → j ≡ i =
      λ j yes. (let other = (default_decides j).0 yes in (only j other.0 other.1).0) in
      let small : i < length family = ancestor_within family within is.0.0.0 in
      ap (λ (xs : List ℕ). declared_by (interface_method_in family key) (only_one xs))
      (one_left (has_default family key c) i passes alone 0 (length family) (omega arith) (omega (arith, small)))
      ∙ ap (method_at i) is.0.0.1

  pub no_default_is : HasNoDefault family key c → the_default family key c ≡ None
  no_default_is none = by (filter (has_default family key c) (given_classes family)) refl
    where
      by : (xs : List ℕ) → filter (has_default family key c) (given_classes family) ≡ xs
          → declared_by (interface_method_in family key) (only_one xs) ≡ None
      by [] is = refl
      by (x ∷ y ∷ xs) is = refl
      by (x ∷ []) is =
          let passes = recursion_from_All (λ j. has_default family key c j ≡ true) (x ∷ [])
          (subst (All (λ j. has_default family key c j ≡ true)) is
          (filter_passes (has_default family key c) (given_classes family))) in
          let default = (default_decides x).0 passes.0 in
          absurd (none x default.0 (
            default.1,
            λ j l other.
                let there = subst (λ (zs : List ℕ). Contains zs j) is
                (stays (has_default family key c) (given_classes family) j
                (in_range j 0 (length family) (omega arith)
                (omega (arith, ancestor_within family within other.0.0.0)))
                ((default_decides j).1 (l, other))) in
                let same : j ≡ x = sym (only_in there) in
                let places : Some l ≡ Some default.0 =
                sym other.0.0.1 ∙ ap (interface_method_in family key) same ∙ default.1.0.0.1 in
                (same, cc),
          ))
