-- The place of the object that a value refers to, and lists to which places were added.
use Rattle.std.proofs.Common.{◌≡◌, ◌∙◌, ◌⊎◌, ◌↔◌, inl, inr, ℕ, ◌+◌, ◌<◌, ◌≤◌, true, List, [], ◌∷◌, ◌++◌, length, take}
use Rattle.std.proofs.Common.{get_or, is_some, Option, Some, None, option_map, slice_get, sym, ap, subst, arith}
use Rattle.std.proofs.lemmas.Bool.{cases_lt}
use Rattle.std.proofs.lemmas.List.{take_more, take_all}
use Rattle.std.specs.List.{All}
use Rattle.std.proofs.lemmas.List.Elements.{Contains-push, Contains-push_cases, Contains-append_left, All-contains}
use Rattle.std.proofs.lemmas.Option.{slice_get_past}
use Rattle.vm_state.specs.declared.object.Object.{Object}
use Rattle.vm_state.specs.declared.value.Value.{Value}
use Rattle.vm_state.specs.declared.value.Value.TheVariants as values
use Rattle.vm_state.specs.Values.{IsNumber}
use Rattle.vm_state.specs.declared.kept.Kept.{Kept}
use Rattle.vm_state.specs.Objects.{object_in, numbered_kept}
use Rattle.vm_state.specs.steps.Objects.{object_at_place}
use Rattle.vm_state.specs.SharedState.{Region}
use Rattle.object_graph.proofs.RowPlaceLemmas.{is_at}
use Rattle.program.specs.Tables.{Tables, statics_if, statics_in}
use Rattle.place_set.specs.declared.set.Place.{Place}
use Rattle.place_set.specs.steps.Adds.{Adds}
use Rattle.place_set.proofs.AddsLemmas.{adds_none, adds_then, adds_same}
use Rattle.region_shape.specs.declared.regions.Region.{Region as Held}
use Rattle.region_shape.specs.Regions.{region_of, region_in, environment_of}
use Rattle.object_graph.specs.declared.name_set.ObjectName.{ObjectName}
use Rattle.object_graph.specs.Reached.{reference_to}
use Rattle.object_graph.specs.steps.Places.{pool_in, name_in, Ascends, IsPlaceOf, HoldPlace, IsInFields, IsInStaticsOf}
use Rattle.object_graph.specs.steps.Places.{HoldsPlace}
use Rattle.object_graph.proofs.RowLemmas.{standing, one_index, found_in}

place_is : (x y : Place) → x.row ≡ y.row → x.index ≡ y.index → x ≡ y
place_is x y p q = λ i. record { row = p i; index = q i }

-- what refers to an object by its class and number refers to the one at its place
module _ (regions : List (Option Held)) (c n : ℕ) where
  pool_is : (x : Place) (p : IsPlaceOf regions (values.OfClass c n) x) → x.row ≡ c
  pool_is x p = let is = p.is in (let same : c ≡ x.row = cc in sym same)

  number_is : (x : Place) (p : IsPlaceOf regions (values.OfClass c n) x) → p.held.0 ≡ n
  number_is x p = let is = p.is in (let same : n ≡ p.held.0 = cc in sym same)

  at_pool : (x : Place) (p : IsPlaceOf regions (values.OfClass c n) x)
      → slice_get (pool_in regions c).objects x.index ≡ Some p.held
  at_pool x p =
      let Q : ℕ → Type 0 = λ d. slice_get (pool_in regions d).objects x.index ≡ Some p.held in
      subst Q (pool_is x p) p.at

  pub in_place : (index : ℕ) → Ascends (pool_in regions c)
      → is_some (object_at_place (pool_in regions c).objects index n) ≡ true
      → (x : Place) → IsPlaceOf regions (values.OfClass c n) x ↔ (x ≡ record { row = c; index = index })
  in_place index rise some x = (there, back)
    where
      here : Place
      here = record { row = c; index = index }

      there : IsPlaceOf regions (values.OfClass c n) x → x ≡ here
      there p =
          let s = standing (pool_in regions c).objects index n some in
          let same = one_index (pool_in regions c) x.index s.0.index p.held s.0.held rise (at_pool x p) s.0.at
          (number_is x p ∙ sym s.0.number) in
          place_is x here (pool_is x p) (same ∙ s.1)

      back : x ≡ here → IsPlaceOf regions (values.OfClass c n) x
      back e =
          let s = standing (pool_in regions c).objects index n some in
          let at : slice_get (pool_in regions c).objects index ≡ Some s.0.held =
          ap (λ (i : ℕ). slice_get (pool_in regions c).objects i) (sym s.1) ∙ s.0.at in
          let placed : IsPlaceOf regions (values.OfClass c n) here =
          record { held = s.0.held; at = at; is = ap (λ (k : ℕ). values.OfClass c k) (sym s.0.number) } in
          let Q : Place → Type 0 = λ y. IsPlaceOf regions (values.OfClass c n) y in
          subst Q (sym e) placed

  pub no_place : Ascends (pool_in regions c) → object_in (pool_in regions c).objects n ≡ None → (x : Place)
      → IsPlaceOf regions (values.OfClass c n) x → ⊥
  no_place rise none x p =
      let found = found_in (pool_in regions c) x.index p.held rise (at_pool x p) in
      let clash : None ≡ Some p.held.1 =
      sym none ∙ ap (λ (k : ℕ). object_in (pool_in regions c).objects k) (sym (number_is x p)) ∙ found in
      cc

pub one_place : (regions : List (Option Held)) (v : Value) (place : Place) (old new : List Place)
    → ((x : Place) → IsPlaceOf regions v x ↔ (x ≡ place)) → Adds old (λ x. x ≡ place) new
    → Adds old (IsPlaceOf regions v) new
one_place regions v place old new is a =
    adds_same old new (λ x. x ≡ place) (IsPlaceOf regions v) (λ x e. (is x).1 e) (λ x p. (is x).0 p) a

-- ---- what slots refer to

pub hold_none : (regions : List (Option Held)) (found : List Place) → Adds found (HoldPlace regions []) found
hold_none regions found =
    adds_none found (HoldPlace regions []) (λ x h. let none = h.holds in absurd (omega (arith, none.1)))

pub hold_more : (regions : List (Option Held)) (vs : List Value) (i : ℕ) (v : Value) (old mid new : List Place)
    → i < length vs → v ≡ get_or vs i v → Adds old (HoldPlace regions (take i vs)) mid
    → Adds mid (IsPlaceOf regions v) new → Adds old (HoldPlace regions (take (i + 1) vs)) new
hold_more regions vs i v old mid new low is a b =
    let next : take (i + 1) vs ≡ take i vs ++ v ∷ [] =
    take_more vs i v low ∙ ap (λ y. take i vs ++ y ∷ []) (sym is) in
    adds_then old mid new (HoldPlace regions (take i vs)) (IsPlaceOf regions v) (HoldPlace regions (take (i + 1) vs))
    a b
    (λ x h. split x (subst (λ (ws : List Value). HoldPlace regions ws x) next h))
    (λ x h. subst (λ (ws : List Value). HoldPlace regions ws x) (sym next) (record {
      value = h.value;
      holds = Contains-append_left (take i vs) (v ∷ []) h.value h.holds;
      place = h.place;
    }))
    (λ x p. subst (λ (ws : List Value). HoldPlace regions ws x) (sym next) (record {
      value = v;
      holds = Contains-push (take i vs) v;
      place = p;
    }))
  where
    split : (x : Place) → HoldPlace regions (take i vs ++ v ∷ []) x
        → HoldPlace regions (take i vs) x ⊎ IsPlaceOf regions v x
    split x h = elim (Contains-push_cases (take i vs) v h.value h.holds) [
      | inl before ↦ inl (record { value = h.value; holds = before; place = h.place })
      | inr same ↦ inr (subst (λ (w : Value). IsPlaceOf regions w x) (sym same) h.place)
    ]

pub hold_all : (regions : List (Option Held)) (vs : List Value) (i : ℕ) (old new : List Place) → length vs ≤ i
    → Adds old (HoldPlace regions (take i vs)) new → Adds old (HoldPlace regions vs) new
hold_all regions vs i old new all a =
    subst (λ (ws : List Value). Adds old (HoldPlace regions ws) new) (take_all i vs all) a

no_number : (v : Value) (x : ObjectName) → IsNumber v → v ≡ reference_to x → ⊥
no_number v x number is = let clash : IsNumber (reference_to x) = subst IsNumber is number in cc

-- numbers refer to no object
pub hold_numbers : (regions : List (Option Held)) (vs : List Value) (found : List Place) → All IsNumber vs
    → Adds found (HoldPlace regions vs) found
hold_numbers regions vs found numbers =
    adds_none found (HoldPlace regions vs) (λ x h.
    no_number h.value (name_in x.row h.place.held) (All-contains IsNumber vs h.value numbers h.holds) h.place.is)

-- ---- what static fields refer to

pub fields_none : (regions : List (Option Held)) (found : List Place) (fields : ℕ → Value)
    → Adds found (IsInFields regions fields 0) found
fields_none regions found fields =
    adds_none found (IsInFields regions fields 0) (λ x none. absurd (omega (arith, none.1)))

pub fields_more : (regions : List (Option Held)) (fields : ℕ → Value) (k : ℕ) (v : Value) (old mid new : List Place)
    → v ≡ fields k → Adds old (IsInFields regions fields k) mid → Adds mid (IsPlaceOf regions v) new
    → Adds old (IsInFields regions fields (k + 1)) new
fields_more regions fields k v old mid new is a b =
    adds_then old mid new (IsInFields regions fields k) (IsPlaceOf regions v) (IsInFields regions fields (k + 1)) a b
    (λ x h. elim (cases_lt h.0 k) [
      | inl less ↦ inl (h.0, less, h.2)
      | inr high ↦ (let same : h.0 ≡ k = omega (arith, h.1) in
          inr (subst (λ (w : Value). IsPlaceOf regions w x) (ap fields same ∙ sym is) h.2))
    ])
    (λ x h. (h.0, omega (arith, h.1), h.2))
    (λ x p. (k, omega arith, subst (λ (w : Value). IsPlaceOf regions w x) is p))

-- in the static fields of one of the first classes
abbrev pub IsInStaticsBelow : Tables → List (Option Held) → ℕ → Place → Type 0
IsInStaticsBelow P regions n x = (c : ℕ) × (c < n) × IsInStaticsOf P regions c x

module _ (P : Tables) (regions : List (Option Held)) where
  pub statics_none : (found : List Place) → Adds found (IsInStaticsBelow P regions 0) found
  statics_none found =
      adds_none found (IsInStaticsBelow P regions 0) (λ x none. absurd (omega (arith, none.1)))

  pub statics_more : (n : ℕ) (old mid new : List Place) → Adds old (IsInStaticsBelow P regions n) mid
      → Adds mid (IsInStaticsOf P regions n) new → Adds old (IsInStaticsBelow P regions (n + 1)) new
  statics_more n old mid new a b =
      adds_then old mid new (IsInStaticsBelow P regions n) (IsInStaticsOf P regions n)
      (IsInStaticsBelow P regions (n + 1)) a b
      (λ x h. elim (cases_lt h.0 n) [
        | inl less ↦ inl (h.0, less, h.2)
        | inr high ↦ (let same : h.0 ≡ n = omega (arith, h.1) in
            inr (subst (λ (c : ℕ). IsInStaticsOf P regions c x) same h.2))
      ])
      (λ x h. (h.0, omega (arith, h.1), h.2)) (λ x h. (n, omega arith, h))

  -- a class that has a static field is one of the program
  declared : (c : ℕ) (x : Place) → IsInStaticsOf P regions c x → c < length P.classes
  declared c x (region, here, (k, low, holds)) = elim (cases_lt c (length P.classes)) [
    | inl less ↦ less
    | inr high ↦ absurd (let none = ap (λ o. length (statics_if o)) (slice_get_past P.classes c high) in
        omega (arith, low, none))
  ]

  pub statics_all : (n : ℕ) (old new : List Place) → length P.classes ≤ n
      → Adds old (IsInStaticsBelow P regions n) new → Adds old (λ x. (c : ℕ) × IsInStaticsOf P regions c x) new
  statics_all n old new more a =
      adds_same old new (IsInStaticsBelow P regions n) (λ x. (c : ℕ) × IsInStaticsOf P regions c x)
      (λ x h. (h.0, h.2)) (λ x h. (h.0, omega (arith, declared h.0 x h.1, more), h.1)) a

  -- of a class that is not initialized there is none
  pub not_initialized : (c : ℕ) (found : List Place) → None ≡ region_in regions c
      → Adds found (IsInStaticsOf P regions c) found
  not_initialized c found none =
      adds_none found (IsInStaticsOf P regions c) (λ x h.
      let same : None ≡ environment_of regions c = ap (option_map region_of) none in
      absurd (let clash : None ≡ Some h.0 = same ∙ h.1 in cc))

  pub statics_of_region : (c : ℕ) (held : Held) (count : ℕ) (old new : List Place) → Some held ≡ region_in regions c
      → count ≡ length (statics_in P c) → Adds old (IsInFields regions (region_of held).fields count) new
      → Adds old (IsInStaticsOf P regions c) new
  statics_of_region c held count old new is all a =
      adds_same old new (IsInFields regions (region_of held).fields count) (IsInStaticsOf P regions c)
      (λ x h. (region_of held, sym here, subst (λ (n : ℕ). IsInFields regions (region_of held).fields n x) all h))
      (λ x h.
      let both : Some h.0 ≡ Some (region_of held) = sym h.1 ∙ sym here in
      let same : h.0 ≡ region_of held = cc in
      subst (λ (r : Region). IsInFields regions r.fields count x) same
      (subst (λ (n : ℕ). IsInFields regions h.0.fields n x) (sym all) h.2))
      a
    where
      here : Some (region_of held) ≡ environment_of regions c
      here = ap (option_map region_of) is

-- ---- what an object refers to

object_adds : (regions : List (Option Held)) (x : Place) (held : ℕ × Object) (slots : List Value)
    (old new : List Place) → Some held ≡ slice_get (pool_in regions x.row).objects x.index → slots ≡ held.1.slots
    → Adds old (HoldPlace regions slots) new → Adds old (HoldsPlace regions x) new
object_adds regions x held slots old new here all a =
    adds_same old new (HoldPlace regions slots) (HoldsPlace regions x)
    (λ y h. record {
      held = held;
      at = sym here;
      holds = subst (λ (ws : List Value). HoldPlace regions ws y) all h;
    })
    (λ y h.
    let both : Some h.held ≡ Some held = sym h.at ∙ sym here in
    let same : h.held ≡ held = cc in
    subst (λ (ws : List Value). HoldPlace regions ws y)
    (ap (λ (k : ℕ × Object). k.1.slots) same ∙ sym all) h.holds)
    a

pub object_holds : (regions : List (Option Held)) (x : Place) (n : ℕ) (k : Kept) (old new : List Place)
    → Some (n, k) ≡ option_map numbered_kept (slice_get (pool_in regions x.row).objects x.index)
    → Adds old (HoldPlace regions k.slots) new → Adds old (HoldsPlace regions x) new
object_holds regions x n k old new there a =
    let r = is_at (pool_in regions x.row).objects x.index n k there in
    object_adds regions x r.held k.slots old new (sym r.at) (ap (λ (z : Kept). z.slots) (sym r.kept)) a

no_object : (o : Option (ℕ × Object)) (held : ℕ × Object) → None ≡ option_map numbered_kept o → o ≡ Some held → ⊥
no_object None held none some = cc
no_object (Some z) held none some = cc

pub holds_nothing : (regions : List (Option Held)) (x : Place) (found : List Place)
    → None ≡ option_map numbered_kept (slice_get (pool_in regions x.row).objects x.index)
    → Adds found (HoldsPlace regions x) found
holds_nothing regions x found none =
    adds_none found (HoldsPlace regions x)
    (λ y h. no_object (slice_get (pool_in regions x.row).objects x.index) h.held none h.at)
