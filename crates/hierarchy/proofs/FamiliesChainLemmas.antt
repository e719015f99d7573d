-- Chains of given superclasses end, since no class is its own ancestor.
use Rattle.std.proofs.Common.{◌≡◌, ℕ, zero, suc, ◌<◌, ◌≤◌, Bool, true, false, ◌||◌, eqb, List, [], ◌∷◌, length, Option}
use Rattle.std.proofs.Common.{Some, None, slice_get, refl, sym, ap, ◌∙◌, subst, arith}
use Rattle.std.specs.List.{AllByRecursion, Contains, IsDistinct, list_any}
use Rattle.std.proofs.lemmas.Bool.{eqb-true}
use Rattle.std.proofs.lemmas.Map.Steps.{length-le_from_distinct_below}
use Rattle.std.proofs.lemmas.Map.Keys.{IsDistinct-cons}
use Rattle.std.proofs.lemmas.List.Elements.{Contains-append_right}
use Rattle.std.proofs.lemmas.List.{nil_from_length}
use Rattle.std.proofs.lemmas.Option.{slice_get_within}
use Rattle.loading.specs.Families.{Family, IsFamily, IsAncestor, parent, further, parents_in, interfaces_in}
use Rattle.loading.specs.Families.{superclass_in, superclasses_in, given_superclass, superclass_if}
use Rattle.loading.specs.declared.given.GivenClass.{GivenClass}
use Rattle.loading.specs.declared.given.Superclass.{Superclass}
use Rattle.loading.specs.declared.given.Superclass.TheVariants as super
use Rattle.loading.proofs.PlaceLemmas.{contains_at}

-- ---- the chain from a class, up to some length

abbrev next_in : (ℕ → List ℕ) → Superclass → List ℕ
next_in chain (super.Given d) = chain d
next_in chain (super.BuiltIn class) = []

abbrev from_class : (ℕ → List ℕ) → ℕ → Option GivenClass → List ℕ
from_class chain c None = []
from_class chain c (Some given) = c ∷ next_in chain given.superclass

abbrev pub chain : ℕ → Family → ℕ → List ℕ
chain zero family c = []
chain (suc n) family c = from_class (λ d. chain n family d) c (slice_get family c)

-- ---- it has no class twice

module _ (family : Family) (fits : IsFamily family) where
  superclass_is_parent : (c d : ℕ) (given : GivenClass) → slice_get family c ≡ Some given
      → given.superclass ≡ super.Given d
      → Contains (parents_in family c) d
  superclass_is_parent c d given at is =
      let one : superclasses_in family c ≡ d ∷ [] = ap (λ o. given_superclass (superclass_if o)) at
      ∙ ap (λ s. given_superclass (Some s)) is in
      Contains-append_right (interfaces_in family c) (superclasses_in family c) d
      (subst (λ l. Contains l d) (sym one) (contains_at (d ∷ []) 0 d refl))

  -- all in the chain from an ancestor of a class are ancestors of it
  all_above : (n c d : ℕ) → IsAncestor family c d → AllByRecursion (IsAncestor family c) (chain n family d)
  all_above zero c d above = tt
  all_above (suc n) c d above = by (slice_get family d) refl (λ e up. all_above n c e up)
    where
      next : (s : Superclass) (given : GivenClass) → slice_get family d ≡ Some given → given.superclass ≡ s
          → ((e : ℕ) → IsAncestor family c e → AllByRecursion (IsAncestor family c) (chain n family e))
          → AllByRecursion (IsAncestor family c) (next_in (λ e. chain n family e) s)
      next (super.Given e) given at is rest = rest e (further above (superclass_is_parent d e given at is))
      next (super.BuiltIn b) given at is rest = tt

      by : (o : Option GivenClass) → slice_get family d ≡ o
          → ((e : ℕ) → IsAncestor family c e → AllByRecursion (IsAncestor family c) (chain n family e))
          → AllByRecursion (IsAncestor family c) (from_class (λ e. chain n family e) d o)
      by None at rest = tt
      by (Some given) at rest = (above, next given.superclass given at refl rest)

  differ : (c : ℕ) (xs : List ℕ) → AllByRecursion (IsAncestor family c) xs → AllByRecursion (λ y. eqb c y ≡ false) xs
  differ c [] all = tt
  differ c (x ∷ xs) all = (by (eqb c x) refl, differ c xs all.1)
    where
      by : (b : Bool) → eqb c x ≡ b → eqb c x ≡ false
      by true e = absurd (fits.acyclic c (subst (IsAncestor family c) (sym (eqb-true c x e)) all.0))
      by false e = e

  distinct : (n c : ℕ) → IsDistinct eqb (chain n family c)
  unfolding IsDistinct
  distinct zero c = tt
  distinct (suc n) c = by (slice_get family c) refl (λ d. distinct n d)
    where
      next : (s : Superclass) (given : GivenClass) → slice_get family c ≡ Some given → given.superclass ≡ s
          → ((d : ℕ) → IsDistinct eqb (chain n family d)) → IsDistinct eqb (c ∷ next_in (λ e. chain n family e) s)
      next (super.Given d) given at is rest =
          IsDistinct-cons eqb c (chain n family d)
          (differ c (chain n family d) (all_above n c d (parent (superclass_is_parent c d given at is)))) (rest d)
      next (super.BuiltIn b) given at is rest = IsDistinct-cons eqb c [] tt tt

      by : (o : Option GivenClass) → slice_get family c ≡ o → ((d : ℕ) → IsDistinct eqb (chain n family d))
          → IsDistinct eqb (from_class (λ e. chain n family e) c o)
      by None at rest = tt
      by (Some given) at rest = next given.superclass given at refl rest

  all_within : (n c : ℕ) → AllByRecursion (λ x. x < length family) (chain n family c)
  all_within zero c = tt
  all_within (suc n) c = by (slice_get family c) refl (λ d. all_within n d)
    where
      next : (s : Superclass) → ((d : ℕ) → AllByRecursion (λ x. x < length family) (chain n family d))
          → AllByRecursion (λ x. x < length family) (next_in (λ e. chain n family e) s)
      next (super.Given d) rest = rest d
      next (super.BuiltIn b) rest = tt

      by : (o : Option GivenClass) → slice_get family c ≡ o
          → ((d : ℕ) → AllByRecursion (λ x. x < length family) (chain n family d))
          → AllByRecursion (λ x. x < length family) (from_class (λ e. chain n family e) c o)
      by None at rest = tt
      by (Some given) at rest = (slice_get_within family c given at, next given.superclass rest)

  below_by : (m : ℕ) (xs : List ℕ) → AllByRecursion (λ x. x < m) xs → (q : ℕ) → list_any (eqb q) xs ≡ true → q < m
  below_by m [] all q e = absurd cc
  below_by m (x ∷ xs) all q e = by (eqb q x) refl e (below_by m xs all.1 q)
    where
      by : (b : Bool) → eqb q x ≡ b → (b || list_any (eqb q) xs) ≡ true → (list_any (eqb q) xs ≡ true → q < m) → q < m
      by true same h rest = subst (λ y. y < m) (sym (eqb-true q x same)) all.0
      by false other h rest = rest h

  short : (n c : ℕ) → length (chain n family c) ≤ length family
  short n c = length-le_from_distinct_below (chain n family c) (length family) (distinct n c)
      (below_by (length family) (chain n family c) (all_within n c))

-- ---- it ends, and gets shorter going up

no_longer : (n : ℕ) (family : Family) (c : ℕ) → length (chain (suc n) family c) ≤ n
    → chain n family c ≡ chain (suc n) family c
no_longer zero family c h = sym (nil_from_length (chain 1 family c) (omega arith))
no_longer (suc n) family c h = by (slice_get family c) refl h (λ d. no_longer n family d)
  where
    next : (s : Superclass) → suc (length (next_in (λ e. chain (suc n) family e) s)) ≤ suc n
        → ((d : ℕ) → length (chain (suc n) family d) ≤ n
        → chain n family d ≡ chain (suc n) family d) → next_in (λ e. chain n family e) s ≡ next_in
        (λ e. chain (suc n) family e) s
    next (super.Given d) k rest = rest d (omega arith)
    next (super.BuiltIn b) k rest = refl

    by : (o : Option GivenClass) → slice_get family c ≡ o
        → length (from_class (λ e. chain (suc n) family e) c o) ≤ suc n
        → ((d : ℕ) → length (chain (suc n) family d) ≤ n → chain n family d ≡ chain (suc n) family d)
        → from_class (λ e. chain n family e) c o ≡ from_class (λ e. chain (suc n) family e) c o
    by None at k rest = refl
    by (Some given) at k rest = ap (λ l. c ∷ l) (next given.superclass k rest)

-- how many given classes stand from a class up
abbrev pub height : Family → ℕ → ℕ
height family c = length (chain (suc (length family)) family c)

abbrev pub height_at : Family → Superclass → ℕ
height_at family (super.Given c) = suc (height family c)
height_at family (super.BuiltIn class) = 0

pub height_falls : (family : Family) (c : ℕ) (s : Superclass) → IsFamily family → superclass_in family c ≡ Some s
    → height_at family s < height_at family (super.Given c)
height_falls family c s fits is = by (slice_get family c) refl
  where
    up : (given : GivenClass) (t : Superclass) → given.superclass ≡ t
        → height_at family t ≤ length (c ∷ next_in (λ e. chain (length family) family e) t)
    up given (super.Given d) same =
        let e : chain (length family) family d ≡ chain (suc (length family)) family d =
        no_longer (length family) family d (short family fits (suc (length family)) d) in
        omega (arith, ap length e)
    up given (super.BuiltIn b) same = omega arith

    by : (o : Option GivenClass) → slice_get family c ≡ o → height_at family s < height_at family (super.Given c)
    by None at = let clash : None ≡ Some s = sym (ap superclass_if at) ∙ is in absurd cc
    by (Some given) at =
        let one : Some given.superclass ≡ Some s = sym (ap superclass_if at) ∙ is in
        let same : given.superclass ≡ s = cc in
        let e : height family c ≡ length (c ∷ next_in (λ e. chain (length family) family e) given.superclass) =
        ap (λ o. length (from_class (λ e. chain (length family) family e) c o)) at in
        let h : height_at family s ≤ length (c ∷ next_in (λ e. chain (length family) family e) given.superclass) =
        subst (λ t. height_at family t ≤ length (c ∷ next_in (λ e. chain (length family) family e) given.superclass))
        same (up given given.superclass refl) in
        omega (arith, e, h)

pub falls_given : (family : Family) (c d : ℕ) → IsFamily family → superclasses_in family c ≡ d ∷ []
    → height family d < height family c
falls_given family c d fits is = by (superclass_in family c) refl is
  where
    by : (o : Option Superclass) → superclass_in family c ≡ o → given_superclass o ≡ d ∷ []
        → height family d < height family c
    by None at e = absurd cc
    by (Some (super.BuiltIn b)) at e = absurd cc
    by (Some (super.Given x)) at e =
        let same : x ≡ d = cc in
        let lower = height_falls family c (super.Given x) fits at in
        subst (λ (y : ℕ). height family y < height family c) same (omega (arith, lower))
