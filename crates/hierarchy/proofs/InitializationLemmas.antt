-- The given superclasses of a class end.
use Rattle.std.proofs.Common.{◌≡◌, ℕ, zero, suc, ◌<◌, ◌⊎◌, true, false, eqb, List, [], ◌∷◌, length, get_or, Option}
use Rattle.std.proofs.Common.{Some, None, refl, sym, ap, ◌∙◌, subst, inl, inr, arith, append-nil}
use Rattle.std.specs.List.{Contains, IsDistinct, list_any, flat_map}
use Rattle.std.proofs.lemmas.Bool.{eqb-true, eq-eqb, ne_eqb, cases_lt}
use Rattle.std.proofs.lemmas.Bool.Decides.{Decides-by_or}
use Rattle.std.proofs.lemmas.List.Elements.{Contains-get_or, Contains-append_right, Decides-contains}
use Rattle.std.proofs.lemmas.List.Elements.{recursion_from_All}
use Rattle.std.proofs.lemmas.Map.Keys.{IsDistinct-cons}
use Rattle.std.proofs.lemmas.Map.Steps.{length-le_from_distinct_below}
use Rattle.loading.specs.declared.given.Superclass.{Superclass}
use Rattle.loading.specs.declared.given.Superclass.TheVariants as super
use Rattle.loading.specs.Families.{Family, IsFamily, IsAncestor, parent, further, parents_in, interfaces_in}
use Rattle.loading.specs.Families.{superclasses_in, superclass_in, given_superclass, AreParentsWithin}
use Rattle.hierarchy.specs.Initialization.{AreSuperclasses, none, next, nearest_superclasses, given_superclasses}
use Rattle.hierarchy.proofs.AboveLemmas.{ancestor_of_parent}
use Rattle.loading.proofs.FamiliesParentLemmas.{no_superclasses}
use Rattle.hierarchy.proofs.UniquenessLemmas.{same_superclasses}

one_superclass : (family : Family) (c : ℕ) → (superclasses_in family c ≡ [])
    ⊎ ((d : ℕ) × (superclasses_in family c ≡ d ∷ []))
one_superclass family c = by_class (superclass_in family c) refl
  where
    by_class : (s : Option Superclass) → superclass_in family c ≡ s → (superclasses_in family c ≡ [])
        ⊎ ((d : ℕ) × (superclasses_in family c ≡ d ∷ []))
    by_class None e = inl (ap given_superclass e)
    by_class (Some (super.Given d)) e = inr (d, ap given_superclass e)
    by_class (Some (super.BuiltIn class)) e = inl (ap given_superclass e)

module _ (family : Family) where
  nearest-none : (n c : ℕ) → superclasses_in family c ≡ [] → nearest_superclasses n family c ≡ []
  nearest-none zero c e = refl
  nearest-none (suc n) c e = ap (flat_map (λ d. d ∷ nearest_superclasses n family d)) e

  nearest-next : (n c d : ℕ) → superclasses_in family c ≡ d ∷ []
      → nearest_superclasses (suc n) family c ≡ d ∷ nearest_superclasses n family d
  nearest-next n c d e =
      ap (flat_map (λ d. d ∷ nearest_superclasses n family d)) e ∙ append-nil (d ∷ nearest_superclasses n family d)

  superclass_above : (c d : ℕ) → superclasses_in family c ≡ d ∷ [] → Contains (parents_in family c) d
  superclass_above c d e =
      Contains-append_right (interfaces_in family c) (superclasses_in family c) d
      (subst (λ (ds : List ℕ). Contains ds d) (sym e) (0, omega arith, refl))

  pub nearest_above : (n c y : ℕ) → Contains (nearest_superclasses n family c) y → IsAncestor family c y
  nearest_above zero c y (k, small, e) = absurd (omega arith)
  nearest_above (suc n) c y h = elim (one_superclass family c) [
    | inl e ↦ absurd (past (subst (λ (ds : List ℕ). Contains ds y) (nearest-none (suc n) c e) h))
    | inr (d, e) ↦ up d e (subst (λ (ds : List ℕ). Contains ds y) (nearest-next n c d e) h) (nearest_above n d y)
  ]
    where
      past : Contains [] y → ⊥
      past (k, small, e) = omega arith

      up : (d : ℕ) → superclasses_in family c ≡ d ∷ [] → Contains (d ∷ nearest_superclasses n family d) y
          → (Contains (nearest_superclasses n family d) y → IsAncestor family d y) → IsAncestor family c y
      up d e (zero, small, at) more =
          parent (subst (λ (z : ℕ). Contains (parents_in family c) z) at (superclass_above c d e))
      up d e (suc k, small, at) more = ancestor_of_parent (superclass_above c d e) (more (k, omega arith, at))

  nearest_distinct : IsFamily family → (n c : ℕ) → IsDistinct eqb (c ∷ nearest_superclasses n family c)
  unfolding IsDistinct
  nearest_distinct fits zero c = (tt, tt)
  nearest_distinct fits (suc n) c =
      IsDistinct-cons eqb c (nearest_superclasses (suc n) family c)
      (recursion_from_All (λ y. eqb c y ≡ false) (nearest_superclasses (suc n) family c)
      (λ k d lt. ne_eqb c (get_or (nearest_superclasses (suc n) family c) k d)
      (λ e. fits.acyclic c (subst (λ (y : ℕ). IsAncestor family c y) (sym e)
      (nearest_above (suc n) c (get_or (nearest_superclasses (suc n) family c) k d)
      (Contains-get_or (nearest_superclasses (suc n) family c) k d lt))))))
      (elim (one_superclass family c) [
        | inl e ↦ subst (λ (ds : List ℕ). IsDistinct eqb ds) (sym (nearest-none (suc n) c e)) tt
        | inr (d, e) ↦ subst (λ (ds : List ℕ). IsDistinct eqb ds) (sym (nearest-next n c d e))
            (nearest_distinct fits n d)
      ])

  pub ancestor_within : AreParentsWithin family → {c y : ℕ} → IsAncestor family c y → y < length family
  ancestor_within within {c} (parent {d} h) = within c d h
  ancestor_within within (further {d} {e} a h) = within d e h

  pub listed : (q : ℕ) (xs : List ℕ) → list_any (eqb q) xs ≡ true → Contains xs q
  listed q xs h = (Decides-contains xs q (list_any (eqb q) xs)
      (Decides-by_or (eqb q) (λ y. y ≡ q) (list_any (eqb q))
      (λ y. ((λ e. sym (eqb-true q y e)), (λ e. eq-eqb q y (sym e)))) refl (λ _ _. refl) xs)).0 h

  nearest_short : IsFamily family → AreParentsWithin family → (n c : ℕ) → c < length family
      → length (nearest_superclasses n family c) < length family
  nearest_short fits within n c small =
      let all = c ∷ nearest_superclasses n family c in
      let below : (q : ℕ) → Contains all q → q < length family = λ q h. at q h in
      length-le_from_distinct_below all (length family) (nearest_distinct fits n c) (λ q h. below q (listed q all h))
    where
      at : (q : ℕ) → Contains (c ∷ nearest_superclasses n family c) q → q < length family
      at q (zero, lt, e) = subst (λ (z : ℕ). z < length family) e small
      at q (suc k, lt, e) = ancestor_within within (nearest_above n c q (k, omega arith, e))

  nearest_end : (n c : ℕ) → length (nearest_superclasses n family c) < n
      → AreSuperclasses family c (nearest_superclasses n family c)
  nearest_end zero c less = absurd (omega arith)
  nearest_end (suc n) c less = elim (one_superclass family c) [
    | inl e ↦ subst (λ (ds : List ℕ). AreSuperclasses family c ds) (sym (nearest-none (suc n) c e)) (none e)
    | inr (d, e) ↦ subst (λ (ds : List ℕ). AreSuperclasses family c ds) (sym (nearest-next n c d e))
        (next e (nearest_end n d (omega (arith, ap length (nearest-next n c d e)))))
  ]

pub superclasses_of : (family : Family) (c : ℕ) → IsFamily family → AreParentsWithin family
    → AreSuperclasses family c (given_superclasses family c)
superclasses_of family c fits within = elim (cases_lt c (length family)) [
  | inl small ↦ nearest_end family (length family) c (nearest_short family fits within (length family) c small)
  | inr past ↦ (let e = no_superclasses family c past in
      subst (λ (ds : List ℕ). AreSuperclasses family c ds) (sym (nearest-none family (length family) c e)) (none e))
]

-- a step up
pub given-next : (family : Family) (c d : ℕ) → IsFamily family → AreParentsWithin family
    → superclass_in family c ≡ Some (super.Given d)
    → given_superclasses family c ≡ d ∷ given_superclasses family d
given-next family c d fits within e =
    same_superclasses (superclasses_of family c fits within)
    (next (ap given_superclass e) (superclasses_of family d fits within))

pub given-none : (family : Family) (c : ℕ) → superclasses_in family c ≡ [] → given_superclasses family c ≡ []
given-none family c e = nearest-none family (length family) c e
