-- What the machine holds tells what the image's text says.
use Rattle.std.proofs.Common.{◌≡◌, ◌∙◌, inl, inr, ℕ, zero, suc, ◌+◌, ◌<◌, ◌≤◌, ◌==◌, List, [], ◌∷◌, length, map, get_or}
use Rattle.std.proofs.Common.{true, false, eq-eqb, Option, Some, None, is_some, slice_get, option_map}
use Rattle.std.proofs.Common.{refl, sym, ap, ap₂, subst, arith}
use Rattle.std.specs.List.{All}
use Rattle.std.proofs.lemmas.Bool.{cases_lt}
use Rattle.std.proofs.lemmas.List.FromFn.{fill_by_all}
use Rattle.std.proofs.lemmas.List.Elements.{All-get_or, All-head, All-tail}
use Rattle.std.proofs.lemmas.Option.{get_or_from_slice_get, slice_get-get_or}
use Rattle.std.proofs.lemmas.Slice.Zip.{AllZip-long}
use Rattle.classfile.specs.Printing.{units_of}
use Rattle.classfile.proofs.PrintingLemmas.{units_of-units_text}
use Rattle.built_in.specs.declared.class_id.ArrayType.{ArrayType}
use Rattle.built_in.specs.declared.class_id.ClassId.{ClassId}
use Rattle.built_in.specs.declared.class_id.ClassId.TheVariants as classes
use Rattle.built_in.specs.declared.class_id.ElementType.{ElementType}
use Rattle.built_in.specs.declared.class_id.ElementType.TheVariants as elements
use Rattle.loading.specs.ClassIds.{element_text}
use Rattle.loading.specs.Families.{Family}
use Rattle.vm_state.specs.declared.object.Object.{Object}
use Rattle.vm_state.specs.declared.value.Value.{Value}
use Rattle.vm_state.specs.SharedState.{Pool, Region}
use Rattle.semantics.specs.Quiet.{Environment}
use Rattle.program.specs.InstanceFields.{static_kinds}
use Rattle.program.specs.Tables.{Tables, statics_in}
use Rattle.image_format.specs.Classes.{ImageClass}
use Rattle.image_format.specs.Classes as image
use Rattle.image_format.specs.Regions.{ImageObject, ImageRegion}
use Rattle.image_format.specs.Values.{ImageValue}
use Rattle.image_format.specs.Values as values
use Rattle.image_format.specs.Shapes.{HasObjects, HasShape, KnownHasObjects, ObjectHasShape, Suits}
use Rattle.image_format.specs.Told.{told_array, told_class, told_value}
use Rattle.image_format.specs.Regions.{KeptObject}
use Rattle.image_format.specs.declared.version.Version.{Version}
use Rattle.image_format.specs.declared.version.Version.TheVariants as versions
use Rattle.image_format.specs.Objects.{region_in, object_with}
use Rattle.image_format.specs.Shapes.{AreNumbered}
use Rattle.image_format.proofs.DroppedLemmas.{numbers_all}
use Rattle.image_format.proofs.RowsLemmas.{told_from}
use Rattle.image_format.specs.Told.{told_object, told_kept, told_objects, told_fields, told_region, told_regions}
use Rattle.image_parser.specs.reading.Held.{HoldsObject, HasUnits, HoldsValue, HoldsValues, HoldsField, HoldsFields}
use Rattle.image_parser.specs.reading.Held.{HoldsNumber, HoldsObjects, HoldsRegion, HoldsClass, HoldsRegions, HoldsType}
use Rattle.image_parser.proofs.ClassesLemmas.{place_of}
use Rattle.image_parser.proofs.HeldLemmas.{values_units, slots_units}

-- ---- values and objects, under these strings

module _ (S : List (List ℕ)) where
  value_told : (t : ImageValue) (v : Value) → HasUnits t → HoldsValue S t v → told_value S v ≡ t
  value_told values.Null v units holds = ap (told_value S) holds
  value_told (values.Int n) v units holds = ap (told_value S) holds
  value_told (values.Long n) v units holds = ap (told_value S) holds
  value_told (values.Text us) v units holds =
      ap (told_value S) holds.is
      ∙ ap (λ (text : List ℕ). values.Text (units_of text)) (get_or_from_slice_get S holds.number _ [] holds.spelled)
      ∙ ap values.Text (units_of-units_text us units.each)
  value_told (values.Object c n) v units holds = ap (told_value S) holds
  value_told values.Out v units holds = ap (told_value S) holds

  values_told : (told : List ImageValue) (vs : List Value) → All HasUnits told → HoldsValues S told vs
      → map (told_value S) vs ≡ told
  values_told [] [] units holds = refl
  values_told [] (v ∷ vs) units holds = absurd holds
  values_told (t ∷ told) [] units holds = absurd holds
  values_told (t ∷ told) (v ∷ vs) units holds =
      ap₂ (λ (x : ImageValue) (xs : List ImageValue). x ∷ xs)
      (value_told t v (All-head HasUnits t told units) holds.0)
      (values_told told vs (All-tail HasUnits t told units) holds.1)

  fields_told : (told : List ImageValue) (fields : ℕ → Value) (n : ℕ) → length told ≡ n → All HasUnits told
      → HoldsFields S told fields → told ≡ told_fields S fields n
  fields_told told fields n count units holds =
      fill_by_all (λ k. told_value S (fields k)) told n values.Null count (λ k low.
      let within : k < length told = omega (arith, low, count) in
      let holds_it : HoldsValue S (get_or told k values.Null) (fields k) =
      subst (λ (o : Option ImageValue). HoldsField S o (fields k)) (slice_get-get_or told k values.Null within)
      (holds k) in
      sym (value_told (get_or told k values.Null) (fields k)
      (All-get_or HasUnits told k values.Null within units) holds_it))

  -- ---- objects

  abbrev object : ImageClass → List ImageValue → ImageObject
  object class slots = record { class = class; slots = slots }

  array_told : (family : Family) (a : ArrayType) (element : ElementType) → is_some (element_text family element) ≡ true
      → told_array S a element ≡ image.Known (classes.Array a)
  array_told family a (elements.Unknown n) some = absurd cc
  array_told family a element some = refl

  known_told : (family : Family) (class : ClassId) → KnownHasObjects family class
      → told_class S class ≡ image.Known class
  known_told family (classes.Array a) has = array_told family a a.element has.element
  known_told family (classes.Given c) has = refl
  known_told family (classes.BuiltIn b) has = refl

  type_told : (family : Family) (told : ImageClass) (class : ClassId) → HasObjects family told → HoldsType S told class
      → told_class S class ≡ told
  type_told family (image.Known told) class has holds = ap (told_class S) holds ∙ known_told family told has
  type_told family (image.UnknownArray dimensions name) class has holds =
      ap (told_class S) holds.is
      ∙ ap (told_array S (record { dimensions = dimensions; element = holds.element })) holds.holds.is
      ∙ ap (image.UnknownArray dimensions) (get_or_from_slice_get S holds.holds.number name [] holds.holds.named)

  object_told : (family : Family) (t : ImageObject) (o : Object) → ObjectHasShape family t → HoldsObject S t o
      → told_object S o ≡ t
  object_told family t o shape holds =
      ap₂ object (type_told family t.class o.class shape.class holds.class)
      (values_told t.slots o.slots (slots_units family t.class t.slots shape.slots) holds.slots)

  none_under : (count least : ℕ) (told : List KeptObject) (n : ℕ) → AreNumbered versions.Two count least told
      → n < least → object_with told n ≡ None
  none_under count least [] n numbers lt = refl
  none_under count least (t ∷ ts) n numbers lt =
      let low = numbers.0.0 in
      let less : n < t.number = omega (arith, low, lt) in
      let other : (t.number == n) ≡ false = grind arith in
      let later : object_with ts n ≡ None =
      none_under count (t.number + 1) ts n numbers.1 (omega (arith, less)) in
      rw (other, later) refl

  past_first : (t : KeptObject) (ts : List KeptObject) (n : ℕ) → t.number < n
      → object_with (t ∷ ts) n ≡ object_with ts n
  past_first t ts n less = let other : (t.number == n) ≡ false = grind arith in rw other refl

  told_again : (family : Family) (at : ℕ → Option Object) (told : List KeptObject) (k low count : ℕ) → low + k ≡ count
      → AreNumbered versions.Two count low told
      → All (λ (kept : KeptObject). ObjectHasShape family kept.object) told
      → ((n : ℕ) → low ≤ n → HoldsNumber S (object_with told n) (at n)) → told_from S at low k ≡ told
  told_again family at [] zero low count is numbers shape holds = refl
  told_again family at (t ∷ ts) zero low count is numbers shape holds =
      let a = numbers.0.0 in let b = numbers.0.1 in absurd (omega (arith, a, b, is))
  told_again family at [] (suc k) low count is numbers shape holds =
      let none : at low ≡ None = holds low (omega arith) in
      rw none (told_again family at [] k (low + 1) count (omega (arith, is)) tt shape
      (λ n le. holds n (omega (arith, le))))
  told_again family at (t ∷ ts) (suc k) low count is numbers shape holds = elim (cases_lt low t.number) [
    | inl less ↦
        let under : object_with (t ∷ ts) low ≡ None =
        none_under count t.number (t ∷ ts) low ((omega arith, numbers.0.1), numbers.1) less in
        let none : at low ≡ None =
        subst (λ (x : Option ImageObject). HoldsNumber S x (at low)) under (holds low (omega arith)) in
        rw none (told_again family at (t ∷ ts) k (low + 1) count (omega (arith, is))
        ((omega (arith, less), numbers.0.1), numbers.1) shape (λ n le. holds n (omega (arith, le))))
    | inr high ↦
        let a = numbers.0.0 in
        let same : t.number ≡ low = omega (arith, a, high) in
        let first : (t.number == low) ≡ true = eq-eqb t.number low same in
        let here : object_with (t ∷ ts) low ≡ Some t.object = rw first refl in
        let one = subst (λ (x : Option ImageObject). HoldsNumber S x (at low)) here (holds low (omega arith)) in
        let rest : told_from S at (low + 1) k ≡ ts =
        told_again family at ts k (low + 1) count (omega (arith, is))
        (subst (λ z. AreNumbered versions.Two count (z + 1) ts) same numbers.1)
        (All-tail (λ (kept : KeptObject). ObjectHasShape family kept.object) t ts shape)
        (λ n le. subst (λ (x : Option ImageObject). HoldsNumber S x (at n))
        (past_first t ts n (omega (arith, le, same))) (holds n (omega (arith, le)))) in
        by one rest same (at low) refl
  ]
    where
      by : HoldsNumber S (Some t.object) (at low) → told_from S at (low + 1) k ≡ ts → t.number ≡ low
          → (o : Option Object) → at low ≡ o → told_from S at low (suc k) ≡ t ∷ ts
      by one rest same None e = absurd (subst (λ (x : Option Object). HoldsNumber S (Some t.object) x) e one)
      by one rest same (Some o) e =
          let held : HoldsObject S t.object o =
          subst (λ (x : Option Object). HoldsNumber S (Some t.object) x) e one in
          let object : told_object S o ≡ t.object = object_told family t.object o (shape 0 t (omega arith)) held in
          let kept : told_kept S (low, o) ≡ t = λ i. record { number = same' i; object = object i } in
          rw e (ap (λ (xs : List KeptObject). told_kept S (low, o) ∷ xs) rest
          ∙ ap (λ (x : KeptObject). x ∷ ts) kept)
        where
          same' : low ≡ t.number
          same' = sym same

  objects_told : (family : Family) (made : ℕ) (told : List KeptObject) (pool : Pool)
      → AreNumbered versions.Two made 0 told → All (λ (kept : KeptObject). ObjectHasShape family kept.object) told
      → HoldsObjects S made told pool → told ≡ told_objects S pool
  objects_told family made told pool numbers shape holds =
      rw holds.count
      (sym (told_again family pool.at told made 0 made (omega arith) numbers shape (λ n le. holds.each n)))

-- ---- regions

-- the numbers of a region of either version are some of those below its count
pub numbers_two : (version : Version) (family : Family) (c : ℕ) (t : ImageRegion) → HasShape version family c t
    → AreNumbered versions.Two t.count 0 t.objects
numbers_two versions.One family c t shape =
    numbers_all t.count 0 t.objects (let many = shape.many in omega (arith, many)) shape.numbers
numbers_two versions.Two family c t shape = shape.numbers

-- what is told of a region that is held
pub record IsTold (S : List (List ℕ)) (told : List (Option ImageRegion)) (c : ℕ) (r : Region) : Type 0 where
  pub region : ImageRegion
  pub at : slice_get told c ≡ Some (Some region)
  pub holds : HoldsRegion S region r

pub told_of : (S : List (List ℕ)) (told : List (Option ImageRegion)) (env : Environment) → HoldsRegions S told env
    → (c : ℕ) (r : Region) → env c ≡ Some r → IsTold S told c r
told_of S told env holds c r here = by (region_in told c) refl (subst (HoldsClass S (region_in told c)) here (holds c))
  where
    by : (o : Option ImageRegion) → region_in told c ≡ o → HoldsClass S o (Some r) → IsTold S told c r
    by None is held = absurd cc
    by (Some t) is held = record { region = t; at = place_of told c t is; holds = held }

abbrev region : ℕ → List ImageValue → List KeptObject → ImageRegion
region count statics objects = record { count = count; statics = statics; objects = objects }

module _ (version : Version) (P : Tables)
    (statics : (c : ℕ) → length (statics_in P c) ≡ length (static_kinds P.family c)) where
  region_told : (c : ℕ) (t : ImageRegion) (r : Region) → HasShape version P.family c t
      → HoldsRegion P.strings t r → t ≡ told_region P c r
  region_told c t r shape holds =
      let count : length t.statics ≡ length (statics_in P c) =
      AllZip-long Suits (static_kinds P.family c) t.statics shape.statics ∙ sym (statics c) in
      ap (λ (n : ℕ). region n t.statics t.objects) (sym holds.objects.count)
      ∙ ap₂ (region r.pool.count)
      (fields_told P.strings t.statics r.fields (length (statics_in P c)) count
      (values_units (static_kinds P.family c) t.statics shape.statics) holds.fields)
      (objects_told P.strings P.family t.count t.objects r.pool
      (numbers_two version P.family c t shape) shape.objects holds.objects)

  class_told : (c : ℕ) (o : Option ImageRegion) (r : Option Region)
      → ((t : ImageRegion) → o ≡ Some t → HasShape version P.family c t) → HoldsClass P.strings o r
      → o ≡ option_map (told_region P c) r
  class_told c None r shape holds = sym (ap (option_map (told_region P c)) holds)
  class_told c (Some t) None shape holds = absurd holds
  class_told c (Some t) (Some r) shape holds = ap Some (region_told c t r (shape t refl) holds)

  pub regions_told : (told : List (Option ImageRegion)) (env : Environment) → length told ≡ length P.family
      → ((c : ℕ) (t : ImageRegion) → slice_get told c ≡ Some (Some t) → HasShape version P.family c t)
      → HoldsRegions P.strings told env → told_regions P env ≡ told
  regions_told told env count shapes holds =
      sym (fill_by_all (λ c. option_map (told_region P c) (env c)) told (length P.family) None count (λ c low.
      let within : c < length told = omega (arith, low, count) in
      class_told c (region_in told c) (env c)
      (λ t is. shapes c t (slice_get-get_or told c None within ∙ ap Some is)) (holds c)))
