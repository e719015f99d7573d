-- Classes among some or above them, and steps through all classes, each after its parents.
use Rattle.std.proofs.Common.{◌≡◌, ℕ, ◌<◌, ◌⊎◌, List, [], ◌∷◌, ◌++◌, length, Option, Some, sym, ap, ◌∙◌, subst, inl}
use Rattle.std.proofs.Common.{inr, arith, append_assoc, get_or, map, take, ◌≤◌, ◌+◌, Bor, IfSome, is_some, ltb}
use Rattle.std.proofs.Common.{slice_get}
use Rattle.std.specs.Prelude.{option_map}
use Rattle.std.proofs.lemmas.Bool.{ltb-true}
use Rattle.std.specs.List.{Contains}
use Rattle.std.proofs.lemmas.List.{get_or-map, length-map, take-map, take_more, take_all, map-append}
use Rattle.std.proofs.lemmas.Option.{slice_get-map, slice_get-get_or}
use Rattle.std.proofs.lemmas.List.Elements.{Contains-append_left, Contains-push, Contains-push_cases}
use Rattle.loading.specs.Families.{Family, IsAncestor, parents_in}
use Rattle.hierarchy.specs.Search.{Search}
use Rattle.hierarchy.specs.steps.Above.{IsAmongOrAbove}
use Rattle.hierarchy.specs.steps.ParentSteps.{AreSteps, class_of_step}
use Rattle.hierarchy.specs.declared.member.DeclaredMember.{DeclaredMember}
use Rattle.hierarchy.specs.declared.parents_first.ClassWithParents.{ClassWithParents}
use Rattle.hierarchy.proofs.AscentsOrderLemmas.{none_in_empty}

-- ---- among classes or above them

module _ {family : Family} where
  pub among_one : (c i : ℕ) → IsAmongOrAbove family (c ∷ []) i → (i ≡ c) ⊎ IsAncestor family c i
  among_one c i (inl has) = elim (Contains-push_cases [] c i has) [
    | inl none ↦ absurd (none_in_empty i none)
    | inr same ↦ inl (sym same)
  ]
  among_one c i (inr (p, has, up)) = elim (Contains-push_cases [] c p has) [
    | inl none ↦ absurd (none_in_empty p none)
    | inr same ↦ inr (subst (λ (n : ℕ). IsAncestor family n i) (sym same) up)
  ]

  pub itself_among : (c : ℕ) → IsAmongOrAbove family (c ∷ []) c
  itself_among c = inl (Contains-push [] c)

  pub above_one : (c i : ℕ) → IsAncestor family c i → IsAmongOrAbove family (c ∷ []) i
  above_one c i up = inr (c, Contains-push [] c, up)

  pub among_push : (xs : List ℕ) (y i : ℕ) → IsAmongOrAbove family (xs ++ y ∷ []) i
      → IsAmongOrAbove family xs i ⊎ IsAmongOrAbove family (y ∷ []) i
  among_push xs y i (inl has) = elim (Contains-push_cases xs y i has) [
    | inl before ↦ inl (inl before)
    | inr same ↦ inr (inl (subst (Contains (y ∷ [])) same (Contains-push [] y)))
  ]
  among_push xs y i (inr (p, has, up)) = elim (Contains-push_cases xs y p has) [
    | inl before ↦ inl (inr (p, before, up))
    | inr same ↦ inr (above_one y i (subst (λ (n : ℕ). IsAncestor family n i) (sym same) up))
  ]

  pub among_left : (xs : List ℕ) (y i : ℕ) → IsAmongOrAbove family xs i → IsAmongOrAbove family (xs ++ y ∷ []) i
  among_left xs y i (inl has) = inl (Contains-append_left xs (y ∷ []) i has)
  among_left xs y i (inr (p, has, up)) = inr (p, Contains-append_left xs (y ∷ []) p has, up)

  pub among_right : (xs : List ℕ) (y i : ℕ) → IsAmongOrAbove family (y ∷ []) i → IsAmongOrAbove family (xs ++ y ∷ []) i
  among_right xs y i among = elim (among_one y i among) [
    | inl same ↦ inl (subst (Contains (xs ++ y ∷ [])) (sym same) (Contains-push xs y))
    | inr up ↦ inr (y, Contains-push xs y, up)
  ]

-- ---- searches

module _ (family : Family) (own : ℕ → Option ℕ) where
  pub found_in_front : (ys : List ℕ) {xs : List ℕ} {r : DeclaredMember} → Search family own xs (Some r)
      → Search family own (xs ++ ys) (Some r)
  found_in_front ys (Search.here e) = Search.here e
  found_in_front ys {r = r} (Search.above {c = c} {cs = cs} e rest) =
      Search.above e (subst (λ (l : List ℕ). Search family own l (Some r)) (append_assoc (parents_in family c) cs ys)
      (found_in_front ys rest))

-- ---- one more step

module _ (family : Family) (steps : List ClassWithParents) (parents : List ℕ)
    (are : AreSteps family steps parents) where
  module _ (i : ℕ) (small : i < length steps) where
    pub step_within : (get_or steps i (record { class = 0; from = 0; to = 0 })).class < length family
    step_within =
        let none : ClassWithParents = record { class = 0; from = 0; to = 0 } in
        subst (λ (n : ℕ). n < length family) (get_or-map class_of_step steps i none 0 small)
        (are.order.within i 0 (omega (arith, length-map steps class_of_step, small)))

    pub step_after : (p : ℕ)
        → Contains (parents_in family (get_or steps i (record { class = 0; from = 0; to = 0 })).class) p
        → Contains (map class_of_step (take i steps)) p
    step_after p has =
        let none : ClassWithParents = record { class = 0; from = 0; to = 0 } in
        subst (λ (l : List ℕ). Contains l p) (take-map class_of_step i steps)
        (are.order.after i (get_or steps i none).class p
        (slice_get-map class_of_step steps i ∙ ap (option_map class_of_step) (slice_get-get_or steps i none small)) has)

    pub step_next : map class_of_step (take i steps)
        ++ (get_or steps i (record { class = 0; from = 0; to = 0 })).class ∷ []
        ≡ map class_of_step (take (i + 1) steps)
    step_next =
        let none : ClassWithParents = record { class = 0; from = 0; to = 0 } in
        sym (ap (map class_of_step) (take_more steps i none small)
        ∙ map-append class_of_step (take i steps) (get_or steps i none ∷ []))

  pub all_done : (i c : ℕ) → length steps ≤ i → c < length family → Contains (map class_of_step (take i steps)) c
  all_done i c past small =
      subst (λ (l : List ClassWithParents). Contains (map class_of_step l) c) (sym (take_all i steps past))
      (are.order.whole c small)

-- ---- a list that is read

-- what was read stands there
pub read_at : {X : Type 0} (xs : List X) (p : ℕ) (found : Option (Bor X)) (x : Bor X)
    → IfSome found (λ y. y.now ≡ get_or xs p y.now) → is_some found ≡ ltb p (length xs) → found ≡ Some x
    → slice_get xs p ≡ Some x.now
read_at {X} xs p found x at within is =
    let same : x.now ≡ get_or xs p x.now =
    subst (λ (o : Option (Bor X)). IfSome o (λ y. y.now ≡ get_or xs p y.now)) is at in
    let small : p < length xs = ltb-true p (length xs) (sym within ∙ ap is_some is) in
    slice_get-get_or xs p x.now small ∙ ap Some (sym same)
