-- What a change of the classes' rows is of their states and static fields.
use Rattle.std.proofs.Common.{◌≡◌, ◌≢◌, ℕ, ◌<◌, ◌≤◌, ◌+◌, ◌-◌, inl, inr, Bool, true, false, List, [], ◌∷◌, ◌++◌, length}
use Rattle.std.proofs.Common.{take, get_or, slice_set, replicate, ◌==◌, refl, sym, ap, ◌∙◌, arith, eqb-true}
use Rattle.std.proofs.Common.{if◌then◌else◌, nat_lt, Option, Some, None, slice_get}
use Rattle.std.proofs.Math.Path.{fun_ext}
use Rattle.std.proofs.lemmas.List.{get_or_default, get_or_past, take_all}
use Rattle.std.proofs.lemmas.Option.{slice_get_past, slice_get-get_or}
use Rattle.vm_state.specs.declared.value.Value.{Value}
use Rattle.vm_state.specs.declared.value.Value.TheVariants.{Null}
use Rattle.vm_state.specs.declared.classes.ClassState.{ClassState}
use Rattle.vm_state.specs.declared.classes.ClassArea.{ClassArea}
use Rattle.vm_state.specs.declared.classes.StaticField.{StaticField}
use Rattle.vm_state.specs.Statics.{with_constants, field_in, untouched, area_at, states_of, fields_of, with_state}
use Rattle.vm_state.specs.Statics.{with_fields, with_value}
use Rattle.vm_state.specs.steps.Statics.{with_constant}
use Rattle.vm_state.proofs.ListLemmas.{tested, unequal, get_or-slice_set, get_or-filled}

-- the same, of the whole function
pub field_in-set : (xs : List Value) (f : ℕ) (v : Value) → f < length xs
    → field_in (slice_set xs f v) ≡ with_value (field_in xs) f v
field_in-set xs f v h = fun_ext (λ g. get_or-slice_set xs f g v Null h)

pub field_in-filled : (xs : List Value) (n : ℕ) → length xs ≤ n → field_in (take n xs ++ replicate (n - length xs) Null)
    ≡ field_in xs
field_in-filled xs n h = fun_ext (λ g. rw (take_all n xs h) (get_or-filled xs (n - length xs) g Null))

pub states_of-set : (xs : List ClassArea) (c : ℕ) (a : ClassArea) → c < length xs
    → states_of (slice_set xs c a) ≡ with_state (states_of xs) c a.state
unfolding states_of
states_of-set xs c a h =
    fun_ext (λ d. ap (λ (b : ClassArea). b.state) (get_or-slice_set xs c d a untouched h)
    ∙ pushed_in (d == c) a (area_at xs d)) where
      pushed_in : (b : Bool) (x y : ClassArea) → (if b then x else y).state ≡ (if b then x.state else y.state)
      pushed_in true x y = refl
      pushed_in false x y = refl

pub fields_of-set : (xs : List ClassArea) (c : ℕ) (a : ClassArea) → c < length xs
    → fields_of (slice_set xs c a) ≡ with_fields (fields_of xs) c (field_in a.fields)
unfolding fields_of
fields_of-set xs c a h =
    fun_ext (λ d. ap (λ (b : ClassArea). field_in b.fields) (get_or-slice_set xs c d a untouched h)
    ∙ pushed_in (d == c) a (area_at xs d)) where
      pushed_in : (b : Bool) (x y : ClassArea)
          → field_in (if b then x else y).fields ≡ (if b then field_in x.fields else field_in y.fields)
      pushed_in true x y = refl
      pushed_in false x y = refl

-- one more class, of which nothing is kept
pub area_at-more : (xs : List ClassArea) (c : ℕ) → area_at (xs ++ untouched ∷ []) c ≡ area_at xs c
area_at-more xs c = get_or-filled xs 1 c untouched

pub states_of-more : (xs : List ClassArea) → states_of (xs ++ untouched ∷ []) ≡ states_of xs
unfolding states_of
states_of-more xs = fun_ext (λ c. ap (λ (b : ClassArea). b.state) (area_at-more xs c))

pub fields_of-more : (xs : List ClassArea) → fields_of (xs ++ untouched ∷ []) ≡ fields_of xs
unfolding fields_of
fields_of-more xs = fun_ext (λ c. ap (λ (b : ClassArea). field_in b.fields) (area_at-more xs c))

-- ---- the constants of the first few fields set

abbrev pub constants_below : List StaticField → (ℕ → Value) → ℕ → ℕ → Value
constants_below statics fields i g = if nat_lt g i then with_constants statics fields g else fields g

pub constants_below-none : (statics : List StaticField) (fields : ℕ → Value) → fields ≡ constants_below statics fields 0
constants_below-none statics fields = fun_ext (λ g. grind arith)

constants_past : (statics : List StaticField) (fields : ℕ → Value) (g : ℕ) → length statics ≤ g
    → with_constants statics fields g ≡ fields g
constants_past statics fields g h = rw (slice_get_past statics g h) refl

pub constants_below-all : (statics : List StaticField) (fields : ℕ → Value)
    → constants_below statics fields (length statics) ≡ with_constants statics fields
constants_below-all statics fields = fun_ext (λ g. elim (tested (nat_lt g (length statics))) [
  | inl e ↦ rw e refl
  | inr e ↦ let late : length statics ≤ g = grind arith in rw e (sym (constants_past statics fields g late))
])

same_below : (i g : ℕ) → g ≢ i → nat_lt g (i + 1) ≡ nat_lt g i
same_below i g apart = grind arith

not_yet : (i : ℕ) → nat_lt i i ≡ false
not_yet i = grind arith

at_end : (i : ℕ) → nat_lt i (i + 1) ≡ true
at_end i = grind arith

below_step : (statics : List StaticField) (fields : ℕ → Value) (i : ℕ) (d : StaticField) (o : Option Value)
    → slice_get statics i ≡ Some d → d.constant ≡ o →
    (g : ℕ) → with_constant (constants_below statics fields i) i o g ≡ constants_below statics fields (i + 1) g
below_step statics fields i d None at is g = elim (tested (g == i)) [
  | inl e ↦ let same : g ≡ i = eqb-true g i e in rw (same, at_end i, not_yet i, at, is) refl
  | inr e ↦ rw (same_below i g (unequal g i e)) refl
]
below_step statics fields i d (Some v) at is g = elim (tested (g == i)) [
  | inl e ↦ let same : g ≡ i = eqb-true g i e in rw (e, same, at_end i, at, is) refl
  | inr e ↦ rw (e, same_below i g (unequal g i e)) refl
]

constants_below-step : (statics : List StaticField) (fields : ℕ → Value) (i : ℕ) (d : StaticField)
    → slice_get statics i ≡ Some d →
    with_constant (constants_below statics fields i) i d.constant ≡ constants_below statics fields (i + 1)
constants_below-step statics fields i d at = fun_ext (below_step statics fields i d d.constant at refl)

pub constants_below-next : (statics : List StaticField) (fields new old : ℕ → Value) (i : ℕ) (d : StaticField)
    → i < length statics →
    old ≡ constants_below statics fields i → new ≡ with_constant old i (get_or statics i d).constant
    → new ≡ constants_below statics fields (i + 1)
constants_below-next statics fields new old i d h was is =
    is ∙ (ap (λ (f : ℕ → Value). with_constant f i (get_or statics i d).constant) was
    ∙ constants_below-step statics fields i (get_or statics i d) (slice_get-get_or statics i d h))

-- ---- one class changed, seen from what it was

default_apart : (xs : List ClassArea) (c : ℕ) (a : ClassArea) → c < length xs → a ≡ get_or xs c a → area_at xs c ≡ a
default_apart xs c a h is = get_or_default xs c untouched a h ∙ sym is

same_state : (states : ℕ → ClassState) (c : ℕ) (s : ClassState) → s ≡ states c → with_state states c s ≡ states
same_state states c s is = fun_ext (λ d. elim (tested (d == c)) [
  | inl e ↦ let same : d ≡ c = eqb-true d c e in rw e (is ∙ ap states (sym same))
  | inr e ↦ rw e refl
])

same_fields : (fields : ℕ → ℕ → Value) (c : ℕ) (fs : ℕ → Value) → fs ≡ fields c → with_fields fields c fs ≡ fields
same_fields fields c fs is = fun_ext (λ d. elim (tested (d == c)) [
  | inl e ↦ let same : d ≡ c = eqb-true d c e in rw e (is ∙ ap fields (sym same))
  | inr e ↦ rw e refl
])

pub states_of-kept : (xs : List ClassArea) (c : ℕ) (a b : ClassArea) → c < length xs → a ≡ get_or xs c a
    → b.state ≡ a.state → states_of (slice_set xs c b) ≡ states_of xs
unfolding states_of
states_of-kept xs c a b h was is =
    states_of-set xs c b h
    ∙ same_state (states_of xs) c b.state (is ∙ ap (λ (x : ClassArea). x.state) (sym (default_apart xs c a h was)))

pub fields_of-kept : (xs : List ClassArea) (c : ℕ) (a b : ClassArea) → c < length xs → a ≡ get_or xs c a
    → field_in b.fields ≡ field_in a.fields → fields_of (slice_set xs c b) ≡ fields_of xs
unfolding fields_of
fields_of-kept xs c a b h was is =
    fields_of-set xs c b h
    ∙ same_fields (fields_of xs) c (field_in b.fields)
    (is ∙ ap (λ (x : ClassArea). field_in x.fields) (sym (default_apart xs c a h was)))

pub fields_of-changed : (xs : List ClassArea) (c : ℕ) (a b : ClassArea) (change : (ℕ → Value) → ℕ → Value)
    → c < length xs → a ≡ get_or xs c a → field_in b.fields ≡ change (field_in a.fields) →
    fields_of (slice_set xs c b) ≡ with_fields (fields_of xs) c (change (fields_of xs c))
unfolding fields_of
fields_of-changed xs c a b change h was is =
    fields_of-set xs c b h
    ∙ ap (with_fields (fields_of xs) c)
    (is ∙ ap (λ (x : ClassArea). change (field_in x.fields)) (sym (default_apart xs c a h was)))

-- ---- the fields of a class taken out

pub fields_of-at : (xs : List ClassArea) (c : ℕ) (a : ClassArea) → c < length xs → a ≡ get_or xs c a
    → field_in a.fields ≡ fields_of xs c
unfolding fields_of
fields_of-at xs c a h was = ap (λ (x : ClassArea). field_in x.fields) (sym (default_apart xs c a h was))

pub fields_of-past : (xs : List ClassArea) (c : ℕ) → length xs ≤ c → field_in [] ≡ fields_of xs c
unfolding fields_of
fields_of-past xs c h = ap (λ (x : ClassArea). field_in x.fields) (sym (get_or_past xs c untouched h))

pub fields_of-none : (xs : List ClassArea) (c : ℕ) → length xs ≤ c
    → fields_of xs ≡ with_fields (fields_of xs) c (field_in [])
fields_of-none xs c h = sym (same_fields (fields_of xs) c (field_in []) (fields_of-past xs c h))
