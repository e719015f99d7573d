-- The built-in classes above given ones.
use Rattle.std.proofs.Common.{◌≡◌, ℕ, zero, suc, ◌+◌, ◌<◌, List, [], ◌∷◌, length, take, get_or, Some, None, slice_get}
use Rattle.std.proofs.Common.{slice_set, refl, sym, ap, ◌∙◌, subst, inl, inr, arith}
use Rattle.std.specs.List.{Contains}
use Rattle.std.proofs.lemmas.Bool.{cases_eq}
use Rattle.std.proofs.lemmas.List.{take_more, get_or_default}
use Rattle.std.proofs.lemmas.List.Elements.{Contains-append_right, Contains-push_cases}
use Rattle.std.proofs.lemmas.Option.{slice_get_read}
use Rattle.built_in.specs.declared.class_id.BuiltIn.{BuiltIn}
use Rattle.loading.specs.Families.{Family, IsParentsFirst, interfaces_in, superclasses_in, superclass_in}
use Rattle.loading.specs.Families.{given_superclass, parents_in}
use Rattle.loading.specs.declared.given.Superclass.TheVariants as super
use Rattle.hierarchy.specs.steps.Tops.{IsTop}
use Rattle.loading.proofs.PlaceLemmas.{contains_at}
use Rattle.hierarchy.proofs.RowLemmas.{set_here, set_else}

pub has_superclass : (family : Family) (c : ℕ) → c < length family → superclass_in family c ≡ None → ⊥
has_superclass [] c small none = omega (arith, small)
has_superclass (x ∷ xs) zero small none = cc
has_superclass (x ∷ xs) (suc c) small none = has_superclass xs c (omega (arith, small)) none

pub there_is : {A : Type 0} (xs : List A) (i : ℕ) → i < length xs → (x : A) × (slice_get xs i ≡ Some x)
there_is [] i small = absurd (omega (arith, small))
there_is (x ∷ xs) zero small = (x, refl)
there_is (x ∷ xs) (suc i) small = there_is xs i (omega (arith, small))

-- the superclass of a class came before it, so what is above that is known
pub above_known : (family : Family) (order : List ℕ) (tops : List BuiltIn) (k : ℕ) → IsParentsFirst family order
    → k < length order → length tops ≡ length family
    → ((c : ℕ) (b : BuiltIn) → Contains (take k order) c → slice_get tops c ≡ Some b → IsTop family c b)
    → (d : ℕ) → superclass_in family (get_or order k 0) ≡ Some (super.Given d) → d < length family
    → (b : BuiltIn) × (slice_get tops d ≡ Some b) × IsTop family d b
above_known family order tops k first small count came d is within =
    let class : ℕ = get_or order k 0 in
    let one : superclasses_in family class ≡ d ∷ [] = ap given_superclass is in
    let before : Contains (take k order) d =
    first.after k class d (slice_get_read order (length order) k class refl small
    (get_or_default order k 0 class small))
    (Contains-append_right (interfaces_in family class) (superclasses_in family class) d
    (subst (λ l. Contains l d) (sym one) (contains_at (d ∷ []) 0 d refl))) in
    let top = there_is tops d (omega (arith, within, count)) in
    (top.0, top.1, came d top.0 before top.1)

pub tops_next : (family : Family) (order : List ℕ) (tops : List BuiltIn) (k : ℕ) (top : BuiltIn) → k < length order
    → get_or order k 0 < length tops
    → ((c : ℕ) (b : BuiltIn) → Contains (take k order) c → slice_get tops c ≡ Some b → IsTop family c b)
    → IsTop family (get_or order k 0) top
    → (c : ℕ) (b : BuiltIn) → Contains (take (k + 1) order) c
    → slice_get (slice_set tops (get_or order k 0) top) c ≡ Some b
    → IsTop family c b
tops_next family order tops k top small within came here c b has at = elim (cases_eq (get_or order k 0) c) [
  | inl equal ↦ (let is : Some top ≡ Some b = sym (set_here tops (get_or order k 0) top within)
      ∙ ap (slice_get (slice_set tops (get_or order k 0) top)) equal ∙ at in
      let both : top ≡ b = cc in
      subst (IsTop family c) both (subst (λ d. IsTop family d top) equal here))
  | inr other ↦ came c b
      (elim (Contains-push_cases (take k order) (get_or order k 0) c (rw (take_more order k 0 small) at has)) [
        | inl before ↦ before
        | inr last ↦ absurd (other last)
      ])
      (sym (set_else tops (get_or order k 0) c top other) ∙ at)
]

pub parent_of : (family : Family) (c d : ℕ) → superclass_in family c ≡ Some (super.Given d)
    → Contains (parents_in family c) d
parent_of family c d is =
    let one : superclasses_in family c ≡ d ∷ [] = ap given_superclass is in
    Contains-append_right (interfaces_in family c) (superclasses_in family c) d
    (subst (λ l. Contains l d) (sym one) (contains_at (d ∷ []) 0 d refl))
