-- What references resolve to, as one window of declarations after another is looked at.
use Rattle.std.proofs.Common.{◌≡◌, ◌↔◌, ◌⊎◌, ◌<◌, ◌≤◌, ◌+◌, ℕ, Bool, true, false, cond, List, [], ◌∷◌, ◌++◌}
use Rattle.std.proofs.Common.{Option, Some, None, MatchOption, length, slice_get, take, not}
use Rattle.std.proofs.Common.{refl, sym, ap, ◌∙◌, subst, inl, inr, arith, zero, suc, append-nil, ◌-◌, bit_and}
use Rattle.std.specs.List.{Contains}
use Rattle.std.proofs.lemmas.Bool.{cases_lt}
use Rattle.std.proofs.lemmas.List.{take_more, take_all}
use Rattle.std.proofs.lemmas.Option.{slice_get_within, get_or_from_slice_get}
use Rattle.built_in.specs.Keys.{NameAndType}
use Rattle.loading.proofs.PlaceLemmas.{contains_at}
use Rattle.loading.specs.Families.{Family, IsAncestor}
use Rattle.hierarchy.specs.Hierarchies.{NumberedFamily}
use Rattle.hierarchy.specs.MemberLookup.{interface_method_in, IsDefault, IsTheDefault, HasNoDefault, flags_in}
use Rattle.hierarchy.specs.MemberLookup.{is_abstract}
use Rattle.hierarchy.specs.Search.{Search}
use Rattle.hierarchy.specs.Resolution.{AmongInterfaces}
use Rattle.hierarchy.specs.steps.Answers.{AreBitsOf, classes_with}
use Rattle.hierarchy.specs.steps.DeclarationBits.{Has, IsMask, Knows}
use Rattle.hierarchy.specs.steps.Declarations.{AreDeclared}
use Rattle.hierarchy.specs.steps.Defaults.{AreFound, nothing, one, several, found_after, only_of}
use Rattle.hierarchy.specs.steps.FoundAhead.{given_method}
use Rattle.hierarchy.specs.steps.MemberKeys.{same_key, AreNumbers}
use Rattle.hierarchy.specs.declared.declarations.Declaration.{Declaration}
use Rattle.hierarchy.specs.declared.defaults.FoundMethods.{FoundMethods}
use Rattle.hierarchy.specs.declared.defaults.FoundMethods.TheVariants as found
use Rattle.hierarchy.specs.declared.masks.Mask.{Mask}
use Rattle.hierarchy.specs.declared.member.DeclaredMember.{DeclaredMember}
use Rattle.hierarchy.specs.declared.bits.Known.{Known}
use Rattle.hierarchy.specs.declared.member_key.MemberKey.{MemberKey}
use Rattle.hierarchy.specs.declared.wanted.Wanted.TheVariants as kind
use Rattle.hierarchy.proofs.AmongLemmas.{among_one, above_one}
use Rattle.hierarchy.proofs.DefaultsLemmas.{one_more}
use Rattle.hierarchy.proofs.MemberKeysLemmas.{key_is, same_key_itself}
use Rattle.hierarchy.proofs.WordLemmas.{both}
use Rattle.hierarchy.proofs.AscentsOrderLemmas.{none_in_empty, in_front, in_rest}

-- ---- lists

front_or_rest : (x : ℕ) (xs : List ℕ) (i : ℕ) → Contains (x ∷ xs) i → (x ≡ i) ⊎ Contains xs i
front_or_rest x xs i (zero, small, e) = inl e
front_or_rest x xs i (suc k, small, e) = inr (k, omega (arith, small), e)

none_past : (xs : List Declaration) (p : ℕ) → slice_get xs p ≡ None → length xs ≤ p
none_past xs p none = elim (cases_lt p (length xs)) [
  | inl small ↦ absurd (none_within xs p small none)
  | inr large ↦ large
]
  where
    none_within : (ys : List Declaration) (q : ℕ) → q < length ys → slice_get ys q ≡ None → ⊥
    none_within [] q small is = omega (arith, small)
    none_within (y ∷ ys) zero small is = let clash : Some y ≡ None = is in cc
    none_within (y ∷ ys) (suc q) small is = none_within ys q (omega (arith, small)) is

taken_at : (xs : List Declaration) (count p : ℕ) (e : Declaration) → slice_get (take count xs) p ≡ Some e
    → (p < count) × (slice_get xs p ≡ Some e)
taken_at xs zero p e at = absurd (let clash : None ≡ Some e = at in cc)
taken_at [] (suc n) p e at = absurd (let clash : None ≡ Some e = at in cc)
taken_at (x ∷ xs) (suc n) zero e at = (omega arith, at)
taken_at (x ∷ xs) (suc n) (suc p) e at = let there = taken_at xs n p e at in (omega (arith, there.0), there.1)

at_taken : (xs : List Declaration) (count p : ℕ) (e : Declaration) → p < count → slice_get xs p ≡ Some e
    → slice_get (take count xs) p ≡ Some e
at_taken xs zero p e small at = absurd (omega (arith, small))
at_taken [] (suc n) p e small at = absurd (let clash : None ≡ Some e = at in cc)
at_taken (x ∷ xs) (suc n) zero e small at = at
at_taken (x ∷ xs) (suc n) (suc p) e small at = at_taken xs n p e (omega (arith, small)) at

coded_off : (b : Bool) → not b ≡ true → b ≡ false
coded_off false e = refl
coded_off true e = absurd cc

-- ---- the classes of the declarations of a name and descriptor

pub same_or_not : (a b : MemberKey) → (same_key a b ≡ true) ⊎ (same_key a b ≡ false)
same_or_not a b = by (same_key a b) refl
  where
    by : (o : Bool) → same_key a b ≡ o → (same_key a b ≡ true) ⊎ (same_key a b ≡ false)
    by true e = inl e
    by false e = inr e

module _ (key : MemberKey) where
  classes_with-push : (xs : List Declaration) (e : Declaration)
      → classes_with key (xs ++ e ∷ []) ≡ classes_with key xs ++ cond (same_key e.key key) (e.member.class ∷ []) []
  classes_with-push [] e = refl
  classes_with-push (x ∷ xs) e = by (classes_with-push xs e) (same_key x.key key)
    where
      by : classes_with key (xs ++ e ∷ []) ≡ classes_with key xs ++ cond (same_key e.key key) (e.member.class ∷ []) []
          → (b : Bool) → cond b (x.member.class ∷ classes_with key (xs ++ e ∷ [])) (classes_with key (xs ++ e ∷ []))
          ≡ cond b (x.member.class ∷ classes_with key xs) (classes_with key xs)
          ++ cond (same_key e.key key) (e.member.class ∷ []) []
      by rest true = ap (λ (l : List ℕ). x.member.class ∷ l) rest
      by rest false = rest

  pub with_has : (xs : List Declaration) (i : ℕ) → Contains (classes_with key xs) i
      → (p : ℕ) × (e : Declaration) × (slice_get xs p ≡ Some e) × (e.key ≡ key) × (e.member.class ≡ i)
  with_has [] i has = absurd (none_in_empty i has)
  with_has (x ∷ xs) i has =
      by (λ more. (let there = with_has xs i more in (suc there.0, there.1, there.2, there.3, there.4)))
      (same_key x.key key) refl has
    where
      by : (Contains (classes_with key xs) i
          → (p : ℕ) × (e : Declaration) × (slice_get (x ∷ xs) p ≡ Some e) × (e.key ≡ key) × (e.member.class ≡ i))
          → (b : Bool) → same_key x.key key ≡ b
          → Contains (cond b (x.member.class ∷ classes_with key xs) (classes_with key xs)) i
          → (p : ℕ) × (e : Declaration) × (slice_get (x ∷ xs) p ≡ Some e) × (e.key ≡ key) × (e.member.class ≡ i)
      by on true e among = elim (front_or_rest x.member.class (classes_with key xs) i among) [
        | inl same ↦ (zero, x, refl, key_is x.key key e, same)
        | inr more ↦ on more
      ]
      by on false e among = on among

  pub has_with : (xs : List Declaration) (p : ℕ) (e : Declaration) → slice_get xs p ≡ Some e → e.key ≡ key
      → Contains (classes_with key xs) e.member.class
  has_with [] p e at same = absurd (let clash : None ≡ Some e = at in cc)
  has_with (x ∷ xs) zero e at same =
      let both : Some x ≡ Some e = at in
      let is : x ≡ e = cc in
      subst (λ (y : Declaration). Contains (classes_with key (x ∷ xs)) y.member.class) is
      (subst (λ (b : Bool). Contains (cond b (x.member.class ∷ classes_with key xs) (classes_with key xs))
      x.member.class)
      (sym (ap (λ (k : MemberKey). same_key k key) (ap (λ (y : Declaration). y.key) is ∙ same) ∙ same_key_itself key))
      (in_front x.member.class (classes_with key xs)))
  has_with (x ∷ xs) (suc p) e at same = by (has_with xs p e at same) (same_key x.key key)
    where
      by : Contains (classes_with key xs) e.member.class → (b : Bool)
          → Contains (cond b (x.member.class ∷ classes_with key xs) (classes_with key xs)) e.member.class
      by rest true = in_rest x.member.class (classes_with key xs) e.member.class rest
      by rest false = rest

  -- ---- of the first so many

  module _ (xs : List Declaration) where
    pub taken_has : (count i : ℕ) → Contains (classes_with key (take count xs)) i
        → (p : ℕ) × (e : Declaration) × (p < count) × (slice_get xs p ≡ Some e) × (e.key ≡ key)
        × (e.member.class ≡ i)
    taken_has count i has =
        let there = with_has (take count xs) i has in
        let low = taken_at xs count there.0 there.1 there.2 in
        (there.0, there.1, low.0, low.1, there.3, there.4)

    pub has_taken : (count p : ℕ) (e : Declaration) → p < count → slice_get xs p ≡ Some e → e.key ≡ key
        → Contains (classes_with key (take count xs)) e.member.class
    has_taken count p e small at same = has_with (take count xs) p e (at_taken xs count p e small at) same

    pub taken_more : (count more : ℕ) → count ≤ more → (i : ℕ) → Contains (classes_with key (take count xs)) i
        → Contains (classes_with key (take more xs)) i
    taken_more count more up i has =
        let there = taken_has count i has in
        subst (Contains (classes_with key (take more xs))) there.5
        (has_taken more there.0 there.1 (omega (arith, there.2, up)) there.3 there.4)

    pub classes_next : (count : ℕ) (e : Declaration) → slice_get xs count ≡ Some e
        → classes_with key (take (count + 1) xs)
        ≡ classes_with key (take count xs) ++ cond (same_key e.key key) (e.member.class ∷ []) []
    classes_next count e at =
        ap (classes_with key) (take_more xs count e (slice_get_within xs count e at)
        ∙ ap (λ (y : Declaration). take count xs ++ y ∷ []) (get_or_from_slice_get xs count e e at))
        ∙ classes_with-push (take count xs) e

-- ---- what was found of more classes

module _ (Is : ℕ → ℕ → Type 0) (seen more : List ℕ) (keeps : (i : ℕ) → Contains seen i → Contains more i) where
  pub several_on : AreFound Is seen found.Several → AreFound Is more found.Several
  several_on (several {i = i} {j = j} a p b q differ) = several (keeps i a) p (keeps j b) q differ

  module _ (none : (i : ℕ) → Contains more i → Contains seen i ⊎ ((k : ℕ) → ¬ Is i k)) where
    was : (i k : ℕ) → Contains more i → Is i k → Contains seen i
    was i k has is = elim (none i has) [
      | inl before ↦ before
      | inr not ↦ absurd (not k is)
    ]

    pub found_on : (f : FoundMethods) → AreFound Is seen f → AreFound Is more f
    found_on found.Nothing (nothing free) = nothing (λ i k has is. free i k (was i k has is) is)
    found_on (found.One i k) (one among p only) = one (keeps i among) p (λ j l has is. only j l (was j l has is) is)
    found_on found.Several are = several_on are

-- ---- a window

module _ (Is : ℕ → ℕ → Type 0) (declared : List Declaration) (start : ℕ) (key : MemberKey) (word : ℕ)
    (bits : AreBitsOf Is declared start key word) where
  keeps : (i : ℕ) → Contains (classes_with key (take start declared)) i
      → Contains (classes_with key (take (start + 64) declared)) i
  keeps = taken_more key declared start (start + 64) (omega arith)

  pub several_there : AreFound Is (classes_with key (take start declared)) found.Several
      → AreFound Is (classes_with key (take (start + 64) declared)) found.Several
  several_there = several_on Is (classes_with key (take start declared))
      (classes_with key (take (start + 64) declared)) keeps

  module _ (none : (n : ℕ) → ¬ Has word n) where
    old_or_none : (i : ℕ) → Contains (classes_with key (take (start + 64) declared)) i
        → Contains (classes_with key (take start declared)) i ⊎ ((k : ℕ) → ¬ Is i k)
    old_or_none i has =
        let there = taken_has key declared (start + 64) i has in
        elim (cases_lt there.0 start) [
          | inl small ↦ inl (subst (Contains (classes_with key (take start declared))) there.5
              (has_taken key declared start there.0 there.1 small there.3 there.4))
          | inr large ↦ inr (λ k is.
              let n = there.0 - start in
              let place : there.0 ≡ start + n = omega (arith, large) in
              bits.all n there.1 (omega (arith, there.2, large))
              (subst (λ (p : ℕ). slice_get declared p ≡ Some there.1) place there.3) there.4 (none n) k
              (subst (λ (x : ℕ). Is x k) (sym there.5) is))
        ]

    pub none_there : (f : FoundMethods) → AreFound Is (classes_with key (take start declared)) f
        → AreFound Is (classes_with key (take (start + 64) declared)) f
    none_there = found_on Is (classes_with key (take start declared))
        (classes_with key (take (start + 64) declared)) keeps old_or_none

  -- one place after another
  module _ (bit : ℕ) (small : bit < 64) (f : FoundMethods)
      (are : AreFound Is (classes_with key (take (start + bit) declared)) f) where
    pub past_there : slice_get declared (start + bit) ≡ None
        → AreFound Is (classes_with key (take (start + (bit + 1)) declared)) f
    past_there none = subst (λ (l : List Declaration). AreFound Is (classes_with key l) f)
        (take_all (start + bit) declared (none_past declared (start + bit) none)
        ∙ sym (take_all (start + (bit + 1)) declared
        (omega (arith, none_past declared (start + bit) none)))) are

    module _ (e : Declaration) (at : slice_get declared (start + bit) ≡ Some e) where
      next : classes_with key (take (start + (bit + 1)) declared)
          ≡ classes_with key (take (start + bit) declared) ++ cond (same_key e.key key) (e.member.class ∷ []) []
      next = subst (λ (m : ℕ). classes_with key (take m declared)
          ≡ classes_with key (take (start + bit) declared) ++ cond (same_key e.key key) (e.member.class ∷ []) [])
          (omega arith) (classes_next key declared (start + bit) e at)

      with_key : same_key e.key key ≡ true → classes_with key (take (start + (bit + 1)) declared)
          ≡ classes_with key (take (start + bit) declared) ++ e.member.class ∷ []
      with_key same = next ∙ ap (λ (b : Bool). classes_with key (take (start + bit) declared)
          ++ cond b (e.member.class ∷ []) []) same

      pub set_there : Has word bit
          → AreFound Is (classes_with key (take (start + (bit + 1)) declared))
          (found_after f e.member.class (Some e.member.index))
      set_there has =
          let is = bits.are bit e small at has in
          let same : same_key e.key key ≡ true =
          ap (λ (k : MemberKey). same_key k key) is.0 ∙ same_key_itself key in
          subst (λ (l : List ℕ). AreFound Is l (found_after f e.member.class (Some e.member.index)))
          (sym (with_key same))
          (one_more Is (classes_with key (take (start + bit) declared)) e.member.class f (Some e.member.index) is.1 are)

      pub unset_there : ¬ Has word bit → AreFound Is (classes_with key (take (start + (bit + 1)) declared)) f
      unset_there not = elim (same_or_not e.key key) [
        | inl same ↦
            subst (λ (l : List ℕ). AreFound Is l f) (sym (with_key same))
            (one_more Is (classes_with key (take (start + bit) declared)) e.member.class f None
            (bits.all bit e small at (key_is e.key key same) not) are)
        | inr other ↦
            subst (λ (l : List ℕ). AreFound Is l f)
            (sym (next ∙ ap (λ (b : Bool). classes_with key (take (start + bit) declared)
            ++ cond b (e.member.class ∷ []) []) other ∙ append-nil (classes_with key (take (start + bit) declared))))
            are
      ]

-- ---- the first member, or none

module _ (family : Family) (texts : List (List ℕ)) (declares : ℕ → Option ℕ) (declared : List Declaration) (start : ℕ)
    (name : NameAndType) (c : ℕ) (key : MemberKey) (mask : Mask) (known : Known) (masks : IsMask declared start mask)
    (key_is_same : mask.key ≡ key) (numbers : AreNumbers texts name key)
    (told : (n : ℕ) (e : Declaration) → n < 64 → slice_get declared (start + n) ≡ Some e → AreNumbers texts name e.key
    → Knows family declares (c ∷ []) e.member.class e.member.index n known) where
  known_at : (n : ℕ) → n < 64 → Has mask.same n
      → (e : Declaration) × (slice_get declared (start + n) ≡ Some e)
      × Knows family declares (c ∷ []) e.member.class e.member.index n known
  known_at n small has =
      let there = (masks.same n small).0 has in (
        there.0,
        there.1,
        told n there.0 small there.1 (subst (AreNumbers texts name) (sym (there.2 ∙ key_is_same)) numbers),
      )

  pub first_there : (n : ℕ) (e : Declaration) → n < 64 → Has (bit_and known.first mask.same) n
      → slice_get declared (start + n) ≡ Some e → Search family declares (c ∷ []) (Some e.member)
  first_there n e small has at =
      let parts = (both known.first mask.same n).0 has in
      let there = known_at n small parts.1 in
      let two : Some there.0 ≡ Some e = sym there.1 ∙ at in
      let which : there.0 ≡ e = cc in
      subst (λ (x : Declaration). Search family declares (c ∷ []) (Some x.member)) which (there.2.first parts.0)

  pub nothing_there : (n : ℕ) → n < 64 → Has mask.same n → ¬ Has known.covered n
      → Search family declares (c ∷ []) None
  nothing_there n small has lacking = (known_at n small has).2.lacking lacking

-- ---- the defaults of a class

module _ (h : NumberedFamily) (declared : List Declaration) (start : ℕ) (name : NameAndType) (c : ℕ) (key : MemberKey)
    (mask : Mask) (known : Known) (word high : ℕ) (lacks : interface_method_in h.family name c ≡ None)
    (masks : IsMask declared start mask) (key_is_same : mask.key ≡ key) (numbers : AreNumbers h.texts name key)
    (are : AreDeclared h kind.InterfaceMethod declared)
    (told : (n : ℕ) (e : Declaration) → n < 64 → slice_get declared (start + n) ≡ Some e
    → AreNumbers h.texts name e.key
    → Knows h.family (interface_method_in h.family name) (c ∷ []) e.member.class e.member.index n known)
    (bits : (n : ℕ) → n < 64 → Has word n ↔ (Has high n × (¬ Has known.hidden n)))
    (highs : (n : ℕ) → Has high n ↔ (Has known.present n × Has mask.coded n)) where
  module _ (n : ℕ) (e : Declaration) (small : n < 64) (at : slice_get declared (start + n) ≡ Some e) where
    declares_it : AreNumbers h.texts name e.key
        → interface_method_in h.family name e.member.class ≡ Some e.member.index
    declares_it is = (are e (contains_at declared (start + n) e at)).there name is

    code_is : e.coded ≡ not (is_abstract (flags_in h.family e.member.class e.member.index))
    code_is = (are e (contains_at declared (start + n) e at)).code refl

    pub default_bit : Has word n → (e.key ≡ key) × IsDefault h.family name c e.member.class e.member.index
    default_bit has =
        let free = (bits n small).0 has in
        let parts = (highs n).0 free.0 in
        let coded = (masks.coded n small).0 parts.1 in
        let both : Some coded.0 ≡ Some e = sym coded.1 ∙ at in
        let which : coded.0 ≡ e = cc in
        let same : e.key ≡ key =
        ap (λ (x : Declaration). x.key) (sym which) ∙ coded.2.0 ∙ key_is_same in
        let is : AreNumbers h.texts name e.key = subst (AreNumbers h.texts name) (sym same) numbers in
        let knows = told n e small at is in
        let up : IsAncestor h.family c e.member.class =
        elim (among_one c e.member.class (knows.present.0 parts.0)) [
          | inl here ↦ absurd (
              let clash : None ≡ Some e.member.index =
              sym lacks ∙ ap (interface_method_in h.family name) (sym here) ∙ declares_it is in cc)
          | inr over ↦ over
        ] in (
          same,
          (
            (
              (up, declares_it is),
              λ j l other below. free.1 (knows.hidden.1 (j, (l, other.1), above_one c j other.0, below)),
            ),
            coded_off (is_abstract (flags_in h.family e.member.class e.member.index))
                (sym code_is ∙ ap (λ (x : Declaration). x.coded) (sym which) ∙ coded.2.1),
          ),
        )

    pub no_default_bit : e.key ≡ key → ¬ Has word n → (k : ℕ) → ¬ IsDefault h.family name c e.member.class k
    no_default_bit same unset k default =
        let is : AreNumbers h.texts name e.key = subst (AreNumbers h.texts name) (sym same) numbers in
        let knows = told n e small at is in
        let places : Some k ≡ Some e.member.index = sym default.0.0.1 ∙ declares_it is in
        let place : k ≡ e.member.index = cc in
        let coded : e.coded ≡ true =
        code_is ∙ ap not (ap (flags_abstract e.member.class) (sym place) ∙ default.1) in
        let present : Has known.present n = knows.present.1 (above_one c e.member.class default.0.0.0) in
        let flag : Has mask.coded n = (masks.coded n small).1 (e, at, (same ∙ sym key_is_same, coded)) in
        let shown : ¬ Has known.hidden n = λ hidden.
        (let over = knows.hidden.0 hidden in
        elim (among_one c over.0 over.2) [
          | inl here ↦ (
              let clash : None ≡ Some over.1.0 =
              sym lacks ∙ ap (interface_method_in h.family name) (sym here) ∙ over.1.1 in cc)
          | inr up ↦ default.0.1 over.0 over.1.0 (up, over.1.1) over.3
        ]) in
        unset ((bits n small).1 ((highs n).1 (present, flag), shown))
      where
        flags_abstract : ℕ → ℕ → Bool
        flags_abstract class k = is_abstract (flags_in h.family class k)

  pub default_bits : AreBitsOf (IsDefault h.family name c) declared start key word
  default_bits = record { are = default_bit'; all = no_default_bit' }
    where
      default_bit' : (n : ℕ) (e : Declaration) → n < 64 → slice_get declared (start + n) ≡ Some e → Has word n
          → (e.key ≡ key) × IsDefault h.family name c e.member.class e.member.index
      default_bit' n e small at has = default_bit n e small at has

      no_default_bit' : (n : ℕ) (e : Declaration) → n < 64 → slice_get declared (start + n) ≡ Some e → e.key ≡ key
          → ¬ Has word n → (k : ℕ) → ¬ IsDefault h.family name c e.member.class k
      no_default_bit' n e small at same unset k = no_default_bit n e small at same unset k

-- when all were seen
module _ (family : Family) (name : NameAndType) (c : ℕ) (seen : List ℕ)
    (whole : (i k : ℕ) → interface_method_in family name i ≡ Some k → Contains seen i) where
  pub default_told : (f : FoundMethods) → AreFound (IsDefault family name c) seen f
      → MatchOption (only_of f) (HasNoDefault family name c) (λ x. IsTheDefault family name c x.class x.index)
  default_told found.Nothing (nothing free) = λ i k the. free i k (whole i k the.0.0.0.1) the.0
  default_told (found.One i k) (one among p only) = (
    p,
    λ j l default.
        let same : j ≡ i = only j l (whole j l default.0.0.1) default in
        let places : Some l ≡ Some k =
        sym default.0.0.1 ∙ ap (interface_method_in family name) same ∙ p.0.0.1 in
        (same, cc),
  )
  default_told found.Several (several {i = i} {j = j} {k = k} {l = l} a p b q differ) = λ m n the.
      differ ((the.1 i k p).0 ∙ sym (the.1 j l q).0)

-- ---- as resolved

pub search_by : (family : Family) (declares : ℕ → Option ℕ) (cs : List ℕ) (m : Option DeclaredMember)
    → ((x : DeclaredMember) → m ≡ Some x → Search family declares cs (Some x))
    → (m ≡ None → Search family declares cs None) → Search family declares cs m
search_by family declares cs None some none = none refl
search_by family declares cs (Some x) some none = some x refl

pub answered_by : (family : Family) (name : NameAndType) (c : ℕ) (m : Option DeclaredMember)
    → HasNoDefault family name c → Search family (interface_method_in family name) (c ∷ []) m
    → AmongInterfaces family name c (given_method m)
answered_by family name c None none search = AmongInterfaces.none none search
answered_by family name c (Some x) none search = AmongInterfaces.any none search
