-- What the machine holds stays held as strings come in, and grows value by value.
use Rattle.std.proofs.Common.{◌≡◌, ◌≢◌, ◌∙◌, ◌⊎◌, inl, inr, ℕ, zero, suc, ◌+◌, ◌<◌, ◌≤◌, ◌==◌}
use Rattle.std.proofs.Common.{true, false}
use Rattle.std.proofs.Common.{List, [], ◌∷◌, ◌++◌, length, take, get_or, Option, Some, None, slice_get, option_map}
use Rattle.std.proofs.Common.{refl, sym, ap, subst, arith, append_assoc, append-nil, eqb-true}
use Rattle.std.proofs.Common.{eq-eqb}
use Rattle.std.proofs.Math.Path.{fun_ext}
use Rattle.std.proofs.Math.Seq.{get_or-append_seam}
use Rattle.std.specs.List.{All, AllZip}
use Rattle.std.proofs.lemmas.List.{take_more, length-take-le, get_or_past}
use Rattle.std.proofs.lemmas.List.Elements.{All-nil, All-cons, All-weaker}
use Rattle.classfile.specs.Units.{units_text}
use Rattle.vm_state.specs.declared.object.Object.{Object}
use Rattle.vm_state.specs.declared.value.Value.{Value}
use Rattle.vm_state.specs.declared.value.Value.TheVariants as machine
use Rattle.built_in.specs.declared.class_id.ClassId.{ClassId}
use Rattle.built_in.specs.declared.class_id.ClassId.TheVariants as classes
use Rattle.loading.specs.Families.{Family}
use Rattle.vm_state.specs.Objects.{HeldObjects, AscendsFrom, object_in}
use Rattle.vm_state.proofs.ObjectLemmas.{none_below}
use Rattle.vm_state.specs.Pools.{pool_by}
use Rattle.vm_state.specs.SharedState.{Pool, Region}
use Rattle.vm_state.specs.Statics.{field_in, with_value}
use Rattle.vm_state.proofs.ListLemmas.{tested, unequal}
use Rattle.semantics.specs.Quiet.{Environment}
use Rattle.program.specs.declared.runtime_constant.FieldKind.{FieldKind}
use Rattle.program.specs.declared.runtime_constant.FieldKind.TheVariants as kinds
use Rattle.program.specs.InstanceFields.{slots_of}
use Rattle.program.specs.Tables.{Tables}
use Rattle.region_shape.specs.declared.regions.Region.{Region as Held}
use Rattle.region_shape.specs.Regions.{environment_of, region_of, with_region, region_in as region_held}
use Rattle.image_format.specs.Elements.{kind_of_elements}
use Rattle.image_format.specs.Classes.{ImageClass}
use Rattle.image_format.specs.Classes as image
use Rattle.image_format.specs.Regions.{ImageObject, ImageRegion}
use Rattle.image_format.specs.Values.{ImageValue}
use Rattle.image_format.specs.Values as values
use Rattle.image_format.specs.Regions.{KeptObject}
use Rattle.image_format.specs.declared.version.Version.TheVariants as versions
use Rattle.image_format.specs.Objects.{region_in, object_with}
use Rattle.image_format.specs.Shapes.{AreNumbered, AreKnownSlots, AreSlots, AreUnits, Suits}
use Rattle.image_parser.specs.reading.Held.{AddsStrings, HasUnits, HoldsValue, HoldsValues, HoldsField}
use Rattle.image_parser.specs.reading.Held.{HoldsFields, HoldsType}
use Rattle.image_parser.specs.reading.Held.{HoldsObject, HoldsNumber, HoldsKept, HoldsObjects, HoldsRegion, HoldsClass}
use Rattle.image_parser.specs.reading.Held.{HoldsRegions}
use Rattle.image_parser.proofs.ReferencesLemmas.{reference_is}

-- ---- the program

pub adds_none : (P : Tables) → AddsStrings P P
adds_none P = record { family = refl; classes = refl; added = []; strings = sym (append-nil P.strings) }

pub adds_more : (P Q R : Tables) → AddsStrings P Q → AddsStrings Q R → AddsStrings P R
adds_more P Q R first second = record {
  family = second.family ∙ first.family;
  classes = second.classes ∙ first.classes;
  added = first.added ++ second.added;
  strings =
      second.strings ∙ ap (λ (strings : List (List ℕ)). strings ++ second.added) first.strings
      ∙ append_assoc P.strings first.added second.added;
}

-- ---- what is held stays held

pub at_front : {X : Type 0} (xs more : List X) (i : ℕ) (x : X) → slice_get xs i ≡ Some x
    → slice_get (xs ++ more) i ≡ Some x
at_front [] more i x at = absurd cc
at_front (y ∷ ys) more zero x at = at
at_front (y ∷ ys) more (suc i) x at = at_front ys more i x at

module _ (S T added : List (List ℕ)) (grown : T ≡ S ++ added) where
  pub value_kept : (told : ImageValue) (v : Value) → HoldsValue S told v → HoldsValue T told v
  value_kept values.Null v holds = holds
  value_kept (values.Int n) v holds = holds
  value_kept (values.Long n) v holds = holds
  value_kept (values.Text units) v holds = record {
    number = holds.number;
    spelled =
        subst (λ (strings : List (List ℕ)). slice_get strings holds.number ≡ Some (units_text units)) (sym grown)
        (at_front S added holds.number (units_text units) holds.spelled);
    is = holds.is;
  }
  value_kept (values.Object c n) v holds = holds
  value_kept values.Out v holds = holds

  pub values_kept : (told : List ImageValue) (vs : List Value) → HoldsValues S told vs → HoldsValues T told vs
  values_kept [] [] holds = holds
  values_kept [] (v ∷ vs) holds = absurd holds
  values_kept (t ∷ told) [] holds = absurd holds
  values_kept (t ∷ told) (v ∷ vs) holds = (value_kept t v holds.0, values_kept told vs holds.1)

  field_kept : (told : Option ImageValue) (v : Value) → HoldsField S told v → HoldsField T told v
  field_kept None v holds = holds
  field_kept (Some told) v holds = value_kept told v holds

  pub fields_kept : (told : List ImageValue) (fields : ℕ → Value) → HoldsFields S told fields
      → HoldsFields T told fields
  fields_kept told fields holds k = field_kept (slice_get told k) (fields k) (holds k)

  pub type_kept : (told : ImageClass) (class : ClassId) → HoldsType S told class → HoldsType T told class
  type_kept (image.Known told) class holds = holds
  type_kept (image.UnknownArray dimensions name) class holds = record {
    element = holds.element;
    holds = record {
      number = holds.holds.number;
      named =
          subst (λ (strings : List (List ℕ)). slice_get strings holds.holds.number ≡ Some name) (sym grown)
          (at_front S added holds.holds.number name holds.holds.named);
      is = holds.holds.is;
    };
    is = holds.is;
  }

  pub object_kept : (told : ImageObject) (object : Object) → HoldsObject S told object → HoldsObject T told object
  object_kept told object holds = record {
    class = type_kept told.class object.class holds.class;
    slots = values_kept told.slots object.slots holds.slots;
    monitor = holds.monitor;
  }

  number_kept : (told : Option ImageObject) (object : Option Object) → HoldsNumber S told object
      → HoldsNumber T told object
  number_kept None object holds = holds
  number_kept (Some told) None holds = holds
  number_kept (Some told) (Some object) holds = object_kept told object holds

  pub objects_kept : (made : ℕ) (told : List KeptObject) (pool : Pool) → HoldsObjects S made told pool
      → HoldsObjects T made told pool
  objects_kept made told pool holds = record {
    count = holds.count;
    each = λ n. number_kept (object_with told n) (pool.at n) (holds.each n);
  }

  pub class_kept : (told : Option ImageRegion) (region : Option Region) → HoldsClass S told region
      → HoldsClass T told region
  class_kept None region holds = holds
  class_kept (Some told) None holds = holds
  class_kept (Some told) (Some region) holds = record {
    fields = fields_kept told.statics region.fields holds.fields;
    objects = objects_kept told.count told.objects region.pool holds.objects;
  }

  pub regions_kept : (told : List (Option ImageRegion)) (env : Environment) → HoldsRegions S told env
      → HoldsRegions T told env
  regions_kept told env holds c = class_kept (region_in told c) (env c) (holds c)

-- ---- static fields

-- the last of a list, and the others
other_of : {X : Type 0} (xs : List X) (x d : X) (k : ℕ) → k ≢ length xs → get_or (xs ++ x ∷ []) k d ≡ get_or xs k d
other_of [] x d zero other = absurd (other refl)
other_of [] x d (suc k) other = refl
other_of (y ∷ ys) x d zero other = refl
other_of (y ∷ ys) x d (suc k) other = other_of ys x d k (λ e. other (ap suc e))

pub next_field : (vs : List Value) (i : ℕ) (d : Value) → i < length vs
    → with_value (field_in (take i vs)) i (get_or vs i d) ≡ field_in (take (i + 1) vs)
next_field vs i d within = fun_ext (λ k. by k (tested (k == i)))
  where
    count : length (take i vs) ≡ i
    count = length-take-le i vs (omega (arith, within))

    by : (k : ℕ) → ((k == i) ≡ true) ⊎ ((k == i) ≡ false)
        → with_value (field_in (take i vs)) i (get_or vs i d) k ≡ field_in (take (i + 1) vs) k
    by k (inl same) =
        let at : k ≡ i = eqb-true k i same in
        rw (same, take_more vs i d within)
        (sym (ap (λ (n : ℕ). get_or (take i vs ++ get_or vs i d ∷ []) n machine.Null) (at ∙ sym count)
        ∙ get_or-append_seam (take i vs) (get_or vs i d) [] machine.Null))
    by k (inr apart) =
        let other : k ≢ length (take i vs) = λ e. unequal k i apart (e ∙ count) in
        rw (apart, take_more vs i d within) (sym (other_of (take i vs) (get_or vs i d) machine.Null k other))

pub all_fields : (S : List (List ℕ)) (told : List ImageValue) (vs : List Value) → HoldsValues S told vs
    → HoldsFields S told (field_in vs)
all_fields S [] [] holds k = refl
all_fields S [] (v ∷ vs) holds k = absurd holds
all_fields S (t ∷ told) [] holds k = absurd holds
all_fields S (t ∷ told) (v ∷ vs) holds zero = holds.0
all_fields S (t ∷ told) (v ∷ vs) holds (suc k) = all_fields S told vs holds.1 k

-- ---- objects

pub last_at : {X : Type 0} (xs : List X) (x : X) → slice_get (xs ++ x ∷ []) (length xs) ≡ Some x
last_at [] x = refl
last_at (y ∷ ys) x = last_at ys x

-- ---- rows

pub row_ascends : (S : List (List ℕ)) (count least : ℕ) (told : List KeptObject) (row : List (ℕ × Object))
    → least ≤ count → AreNumbered versions.Two count least told → AllZip (HoldsKept S) told row
    → AscendsFrom least row count
row_ascends S count least [] [] le numbers holds = le
row_ascends S count least [] (o ∷ os) le numbers holds = absurd holds
row_ascends S count least (t ∷ ts) [] le numbers holds = absurd holds
row_ascends S count least (t ∷ ts) (o ∷ os) le numbers holds =
    let low = numbers.0.0 in
    let lt = numbers.0.1 in
    let is = holds.0.0 in
    let Q : ℕ → Type 0 = λ n. AscendsFrom (n + 1) os count in (
      omega (arith, low, is),
      subst Q (sym is) (row_ascends S count (t.number + 1) ts os (omega (arith, lt)) numbers.1 holds.1),
    )

row_holds : (S : List (List ℕ)) (count least : ℕ) (told : List KeptObject) (row : List (ℕ × Object))
    → AreNumbered versions.Two count least told → AscendsFrom least row count → AllZip (HoldsKept S) told row → (n : ℕ)
    → HoldsNumber S (object_with told n) (object_in row n)
row_holds S count least [] [] numbers rises holds n = refl
row_holds S count least [] (o ∷ os) numbers rises holds n = absurd holds
row_holds S count least (t ∷ ts) [] numbers rises holds n = absurd holds
row_holds S count least (t ∷ ts) (o ∷ os) numbers rises holds n = elim (tested (t.number == n)) [
  | inl same ↦
      let at : t.number ≡ n = eqb-true t.number n same in
      let here : (n == o.0) ≡ true = eq-eqb n o.0 (sym at ∙ sym holds.0.0) in
      let low : n < o.0 + 1 = (let is = holds.0.0 in omega (arith, at, is)) in
      let none : object_in os n ≡ None = none_below (o.0 + 1) os count n rises.1 low in
      rw (same, none, here) holds.0.1
  | inr other ↦
      let apart : (n == o.0) ≡ false =
      not_equal n o.0 (λ e. let clash : false ≡ true = sym other ∙ eq-eqb t.number n (sym (e ∙ holds.0.0)) in cc) in
      let Q : ℕ → Type 0 = λ k. AscendsFrom (k + 1) os count in
      rw (other, past o os n apart)
      (row_holds S count (t.number + 1) ts os numbers.1 (subst Q holds.0.0 rises.1) holds.1 n)
]
  where
    not_equal : (a b : ℕ) → (a ≡ b → ⊥) → (a == b) ≡ false
    not_equal a b never = elim (tested (a == b)) [
      | inl on ↦ absurd (never (eqb-true a b on))
      | inr off ↦ off
    ]

    past : (o : ℕ × Object) (os : List (ℕ × Object)) (k : ℕ) → (k == o.0) ≡ false
        → object_in (o ∷ os) k ≡ object_in os k
    past o os k apart = by (object_in os k) refl
      where
        by : (r : Option Object) → object_in os k ≡ r → object_in (o ∷ os) k ≡ r
        by None e = rw (e, apart) refl
        by (Some x) e = rw e refl

pub row_holds_all : (S : List (List ℕ)) (count : ℕ) (told : List KeptObject) (row : HeldObjects)
    (objects : List (ℕ × Object)) → row ≡ record { count = count; objects = objects }
    → AreNumbered versions.Two count 0 told → AllZip (HoldsKept S) told objects
    → HoldsObjects S count told (pool_by row)
row_holds_all S count told row objects is numbers holds =
    let rises = row_ascends S count 0 told objects (omega arith) numbers holds in
    let Q : HeldObjects → Type 0 = λ r. HoldsObjects S count told (pool_by r) in
    subst Q (sym is) (record { count = refl; each = row_holds S count 0 told objects numbers rises holds })

-- ---- regions

pub no_regions : (S : List (List ℕ)) → HoldsRegions S [] (environment_of [])
no_regions S c = refl

pub next_region : (S : List (List ℕ)) (told : List (Option ImageRegion)) (t : Option ImageRegion)
    (old new : Environment) (n : ℕ) → length told ≡ n → HoldsRegions S told old → HoldsClass S t (new n)
    → ((c : ℕ) → c ≢ n → new c ≡ old c) → HoldsRegions S (told ++ t ∷ []) new
next_region S told t old new n count holds here others c = by (tested (c == n))
  where
    by : ((c == n) ≡ true) ⊎ ((c == n) ≡ false) → HoldsClass S (region_in (told ++ t ∷ []) c) (new c)
    by (inl same) =
        let at : c ≡ n = eqb-true c n same in
        let last : region_in (told ++ t ∷ []) c ≡ t =
        ap (region_in (told ++ t ∷ [])) (at ∙ sym count) ∙ get_or-append_seam told t [] None in
        rw (last, at) here
    by (inr apart) =
        let other : c ≢ n = unequal c n apart in
        let same : region_in (told ++ t ∷ []) c ≡ region_in told c =
        other_of told t None c (λ e. other (e ∙ count)) in
        rw (same, others c other) (holds c)

-- a class that is not initialized
pub no_region : (S : List (List ℕ)) (told : List (Option ImageRegion)) (env : Environment) (n : ℕ) → length told ≡ n
    → HoldsRegions S told env → HoldsRegions S (told ++ None ∷ []) env
no_region S told env n count holds =
    let past : region_in told n ≡ None = get_or_past told n None (omega (arith, count)) in
    let none : HoldsClass S None (env n) = rw past at (holds n) in
    next_region S told None env env n count holds none (λ c other. refl)

pub put_region : (S : List (List ℕ)) (lower : List (Option ImageRegion)) (t : Option ImageRegion) (told : ImageRegion)
    (old new : List (Option Held)) (n : ℕ) (r : Held) → length lower ≡ n → HoldsRegions S lower (environment_of old)
    → t ≡ Some told → HoldsRegion S told (region_of r) → region_held new ≡ with_region (region_held old) n r
    → HoldsRegions S (lower ++ t ∷ []) (environment_of new)
put_region S lower t told old new n r count holds is here put =
    rw is (next_region S lower (Some told) (environment_of old) (environment_of new) n count holds
    (subst (λ (o : Option Held). HoldsClass S (Some told) (option_map region_of o)) (sym at) here)
    (λ c other. ap (option_map region_of) (others c other)))
  where
    at : region_held new n ≡ Some r
    at = ap (λ (held : ℕ → Option Held). held n) put ∙ rw (eq-eqb n n refl) refl

    others : (c : ℕ) → c ≢ n → region_held new c ≡ region_held old c
    others c other =
        ap (λ (held : ℕ → Option Held). held c) put
        ∙ elim (tested (c == n)) [ inl same ↦ absurd (other (eqb-true c n same)) | inr apart ↦ rw apart refl ]

-- ---- units of strings

text_units : (kind : FieldKind) (units : List ℕ) → Suits kind (values.Text units) → AreUnits units
text_units kind units suits =
    let P : FieldKind → Type 0 = λ k. Suits k (values.Text units) in
    subst P (reference_is kind (values.Text units) tt suits) suits

value_units : (kind : FieldKind) (told : ImageValue) → Suits kind told → HasUnits told
value_units kind (values.Text units) suits = text_units kind units suits
value_units kind values.Null suits = tt
value_units kind (values.Int n) suits = tt
value_units kind (values.Long n) suits = tt
value_units kind (values.Object c n) suits = tt
value_units kind values.Out suits = tt

pub values_units : (kinds : List FieldKind) (told : List ImageValue) → AllZip Suits kinds told → All HasUnits told
values_units [] [] suits = All-nil HasUnits
values_units [] (t ∷ told) suits = absurd suits
values_units (kind ∷ kinds) [] suits = absurd suits
values_units (kind ∷ kinds) (t ∷ told) suits =
    All-cons HasUnits t told (value_units kind t suits.0) (values_units kinds told suits.1)

known_units : (family : Family) (class : ClassId) (told : List ImageValue) → AreKnownSlots family class told
    → All HasUnits told
known_units family (classes.Given c) told slots = values_units (slots_of family c) told slots
known_units family (classes.BuiltIn b) told slots = rw slots (All-nil HasUnits)
known_units family (classes.Array a) told slots =
    All-weaker (Suits (kind_of_elements a)) HasUnits (value_units (kind_of_elements a)) told slots.1

pub slots_units : (family : Family) (class : ImageClass) (told : List ImageValue) → AreSlots family class told
    → All HasUnits told
slots_units family (image.Known class) told slots = known_units family class told slots
slots_units family (image.UnknownArray dimensions name) told slots =
    All-weaker (Suits kinds.Reference) HasUnits (value_units kinds.Reference) told slots.1
