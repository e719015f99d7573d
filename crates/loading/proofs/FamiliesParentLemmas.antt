-- Parents are classes.
use Rattle.std.proofs.Common.{◌≡◌, ℕ, zero, suc, ◌<◌, ◌≤◌, List, [], ◌∷◌, ◌++◌, length, take, drop, get_or, Option}
use Rattle.std.proofs.Common.{Some, None, refl, sym, ap, subst, inl, inr, arith}
use Rattle.std.specs.List.{All, Contains, slice_get}
use Rattle.std.proofs.lemmas.Bool.{cases_lt}
use Rattle.std.proofs.lemmas.List.{take-append-drop}
use Rattle.std.proofs.lemmas.List.Elements.{All-contains, All-weaker, All-contains_itself, Contains-append_left}
use Rattle.std.proofs.lemmas.List.Elements.{Contains-append_right}
use Rattle.std.proofs.lemmas.Option.{slice_get_read}
use Rattle.loading.specs.declared.given.GivenClass.{GivenClass}
use Rattle.loading.specs.declared.given.Superclass.TheVariants as super
use Rattle.loading.specs.Families.{Family, IsParentsFirst, AreParentsWithin, parents_in, interfaces_in, interfaces_if}
use Rattle.loading.specs.Families.{superclasses_in, superclass_in, superclass_if, given_superclass}

pub interfaces_within : (family : Family) (c : ℕ) → AreParentsWithin family
    → All (λ i. i < length family) (interfaces_in family c)
interfaces_within family c within =
    All-weaker (Contains (interfaces_in family c)) (λ i. i < length family)
    (λ i h. within c i (Contains-append_left (interfaces_in family c) (superclasses_in family c) i h))
    (interfaces_in family c)
    (All-contains_itself (interfaces_in family c))

pub superclass_within : (family : Family) (c d : ℕ) → AreParentsWithin family
    → superclass_in family c ≡ Some (super.Given d) → d < length family
superclass_within family c d within e =
    within c d (Contains-append_right (interfaces_in family c) (superclasses_in family c) d
    (subst (λ (ds : List ℕ). Contains ds d) (sym (ap given_superclass e)) (0, omega arith, refl)))

past_family : (family : Family) (c : ℕ) → length family ≤ c → slice_get family c ≡ None
past_family [] c h = refl
past_family (x ∷ family) zero h = absurd (omega arith)
past_family (x ∷ family) (suc c) h = past_family family c (omega arith)

-- the class that a slice of the classes has at a number
pub class_at : (family : Family) (c : ℕ) (g : GivenClass) → c < length family → g ≡ get_or family c g
    → slice_get family c ≡ Some g
class_at family c g small read = slice_get_read family (length family) c g refl small read

-- a number of no class has no parents
no_parents : (family : Family) (c : ℕ) → length family ≤ c → parents_in family c ≡ []
no_parents family c h =
    ap (λ (g : Option GivenClass). interfaces_if g ++ given_superclass (superclass_if g)) (past_family family c h)

pub no_superclasses : (family : Family) (c : ℕ) → length family ≤ c → superclasses_in family c ≡ []
no_superclasses family c h = ap (λ (g : Option GivenClass). given_superclass (superclass_if g)) (past_family family c h)

pub no_interfaces : (family : Family) (c : ℕ) → length family ≤ c → interfaces_in family c ≡ []
no_interfaces family c h = ap interfaces_if (past_family family c h)

in_front : (i : ℕ) (order : List ℕ) (d : ℕ) → Contains (take i order) d → Contains order d
in_front i order d h = rw (sym (take-append-drop i order)) (Contains-append_left (take i order) (drop i order) d h)

pub parents_within : (family : Family) (order : List ℕ) → IsParentsFirst family order → AreParentsWithin family
parents_within family order first c d h = elim (cases_lt c (length family)) [
  | inl small ↦ (let at = first.whole c small in
      let read : slice_get order at.0 ≡ Some c = slice_get_read order (length order) at.0 c refl at.1 (sym at.2) in
      All-contains (λ c. c < length family) order d first.within (in_front at.0 order d (first.after at.0 c d read h)))
  | inr past ↦ absurd (nothing (subst (λ (ds : List ℕ). Contains ds d) (no_parents family c past) h))
]
  where
    nothing : Contains [] d → ⊥
    nothing (k, small, e) = omega arith
