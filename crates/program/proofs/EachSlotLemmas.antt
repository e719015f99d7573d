-- What stands for each slot of a class, its kind or its zero or null, as it is added: the last slot first, and class by
-- class from below.
use Rattle.std.proofs.Common.{◌≡◌, ℕ, ◌-◌, ◌<◌, ◌≤◌, suc, List, [], ◌∷◌, ◌++◌, length, reverse, drop, get_or}
use Rattle.std.proofs.Common.{Option, Some, sym, ap, subst, ◌∙◌, append_assoc, drop-cons, arith}
use Rattle.std.proofs.lemmas.List.{length-append, reverse-append}
use Rattle.loading.specs.Families.{Family, IsFamily, AreParentsWithin}
use Rattle.program.specs.declared.runtime_constant.FieldKind.{FieldKind}
use Rattle.program.specs.InstanceFields.{added_slots, slots_of}
use Rattle.program.specs.steps.Slots.{slots_if, slots_above}
use Rattle.program.proofs.SlotsLemmas.{slots_split}

-- one more slot, where what stands for the first of some stands first
pub slot_next : {A : Type 0} (all : List FieldKind → List A) (one : FieldKind → A)
    → ((kind : FieldKind) (kinds : List FieldKind) → all (kind ∷ kinds) ≡ one kind ∷ all kinds)
    → (kinds : List FieldKind) (i : ℕ) (d : FieldKind) (value : A) (old new rest : List A) → 0 < i
    → i ≤ length kinds → value ≡ one (get_or kinds (i - 1) d) → new ≡ old ++ value ∷ []
    → reverse old ≡ all (drop i kinds) ++ rest → reverse new ≡ all (drop (i - 1) kinds) ++ rest
slot_next {A = A} all one first kinds i d value old new rest some small is push before =
    let last : FieldKind = get_or kinds (i - 1) d in
    let next_is : suc (i - 1) ≡ i = omega arith in
    let split : drop (i - 1) kinds ≡ last ∷ drop i kinds =
    drop-cons kinds (i - 1) d (omega arith) ∙ ap (λ (k : ℕ). last ∷ drop k kinds) next_is in
    ap reverse push ∙ reverse-append old (value ∷ []) ∙ ap (λ (xs : List A). value ∷ xs) before
    ∙ ap (λ (x : A). x ∷ all (drop i kinds) ++ rest) is
    ∙ ap (λ (xs : List A). xs ++ rest) (sym (first last (drop i kinds)))
    ∙ ap (λ (xs : List FieldKind). all xs ++ rest) (sym split)

module _ (family : Family) (fits : IsFamily family) (within : AreParentsWithin family) (d : ℕ) where
  -- one more class, where what stands for two lists is what stands for each
  pub class_next : {A : Type 0} (all : List FieldKind → List A)
      → ((front back : List FieldKind) → all (front ++ back) ≡ all front ++ all back)
      → (at next : Option ℕ) (kinds : List FieldKind) (old new whole : List A)
      → at ≡ Some d → slots_above family d ≡ slots_if family next → kinds ≡ added_slots family d
      → reverse new ≡ all kinds ++ reverse old → whole ≡ all (slots_if family at) ++ reverse old
      → whole ≡ all (slots_if family next) ++ reverse new
  class_next {A = A} all joined at next kinds old new whole here upper added more was =
      let split : slots_of family d ≡ slots_if family next ++ kinds =
      slots_split family fits within d
      ∙ ap (λ (xs : List FieldKind). xs ++ added_slots family d) upper
      ∙ ap (λ (xs : List FieldKind). slots_if family next ++ xs) (sym added) in
      was ∙ ap (λ (o : Option ℕ). all (slots_if family o) ++ reverse old) here
      ∙ ap (λ (xs : List FieldKind). all xs ++ reverse old) split
      ∙ ap (λ (xs : List A). xs ++ reverse old) (joined (slots_if family next) kinds)
      ∙ append_assoc (all (slots_if family next)) (all kinds) (reverse old)
      ∙ ap (λ (xs : List A). all (slots_if family next) ++ xs) (sym more)

  -- then fewer slots are left
  pub fewer_left : (at next : Option ℕ) → at ≡ Some d → slots_above family d ≡ slots_if family next
      → ((c : ℕ) → at ≡ Some c → 0 < length (added_slots family c))
      → length (slots_if family next) < length (slots_if family at)
  fewer_left at next here upper some =
      subst (λ (o : Option ℕ). length (slots_if family next) < length (slots_if family o)) (sym here) (omega (
        arith,
        ap length (slots_split family fits within d),
        length-append (slots_above family d) (added_slots family d),
        ap length upper,
        some d here,
      ))
