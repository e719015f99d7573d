-- What an image's text tells of an object and of static fields has shape, where these have.
use Rattle.std.proofs.Common.{◌≡◌, ◌⊎◌, inl, inr, ℕ, ℤ, pos, negsuc, suc, ◌+◌, ◌<◌, ◌≤◌, ◌^◌}
use Rattle.std.proofs.Common.{Bool, true, false, ◌&&◌, List, [], ◌∷◌, length, map, get_or, Option, Some, None}
use Rattle.std.proofs.Common.{is_some, slice_get, refl, sym, ap, subst, arith, add-zero, ltb, leb}
use Rattle.std.specs.Prelude.{FitsSigned, int_le}
use Rattle.std.specs.Int.{w32, w64}
use Rattle.std.specs.List.{All, AllByRecursion, AllZip, range_with_len}
use Rattle.std.proofs.lemmas.Bool.{and_parts, ltb-true, leb-true, le-leb}
use Rattle.std.proofs.lemmas.List.{length-map}
use Rattle.std.proofs.lemmas.List.Elements.{All-nil, All-cons, All-head, All-tail}
use Rattle.std.proofs.lemmas.Option.{get_or_from_slice_get}
use Rattle.built_in.specs.declared.class_id.ArrayType.{ArrayType}
use Rattle.built_in.specs.declared.class_id.BuiltIn.{BuiltIn}
use Rattle.built_in.specs.declared.class_id.BuiltIn.TheVariants as builtins
use Rattle.built_in.specs.declared.class_id.ClassId.{ClassId}
use Rattle.built_in.specs.declared.class_id.ClassId.TheVariants as classes
use Rattle.built_in.specs.declared.class_id.ElementType.{ElementType}
use Rattle.built_in.specs.declared.class_id.ElementType.TheVariants as elements
use Rattle.loading.specs.ClassIds.{element_text}
use Rattle.vm_state.specs.declared.object.Object.{Object}
use Rattle.vm_state.specs.declared.value.Value.{Value}
use Rattle.vm_state.specs.declared.value.Value.TheVariants as machine
use Rattle.vm_state.proofs.ListLemmas.{tested}
use Rattle.semantics.specs.Quiet.{elements_in}
use Rattle.program.specs.declared.runtime_constant.FieldKind.{FieldKind}
use Rattle.program.specs.declared.runtime_constant.FieldKind.TheVariants as kinds
use Rattle.program.specs.Arrays.{is_name, IsUnknownArray, IsUnknownName}
use Rattle.program.specs.InstanceFields.{slots_of}
use Rattle.program.specs.Tables.{Tables}
use Rattle.machine.specs.Arrays.{kind_of_component, kind_of_element}
use Rattle.region_shape.specs.Suits.{suits}
use Rattle.region_shape.specs.Shapes.{AreElements}
use Rattle.region_shape.specs.Shapes.{has_objects as has_instances, HasObjects as HasInstances, AreSlots as HaveSlots}
use Rattle.region_shape.specs.Shapes.{ObjectHasShape as IsShaped}
use Rattle.image_format.specs.Elements.{kind_of_type, kind_of_elements}
use Rattle.image_format.specs.Values.{ImageValue}
use Rattle.image_format.specs.Values as values
use Rattle.image_format.specs.Shapes.{AreUnits, Suits, IsArrayType, HasObjects, AreSlots}
use Rattle.image_format.specs.Shapes.{AreElements as AreToldElements, ObjectHasShape, has_objects, has_values}
use Rattle.image_format.specs.Told.{units_in, told_value, told_array, told_class, told_object}
use Rattle.image_writer.specs.steps.Fits.{FitsType}
use Rattle.image_writer.specs.steps.Sizes.{HasFiles, IsSizedValue}
use Rattle.image_writer.proofs.FilesLemmas.{text_fits, units_are}
use Rattle.image_writer.proofs.SizesLemmas.{short_name}

-- ---- numbers

both : (a b : Bool) → a ≡ true → b ≡ true → (a && b) ≡ true
both true b first second = second
both false b first second = absurd cc

at_most : (n most : ℕ) → ltb n (most + 1) ≡ true → leb n most ≡ true
at_most n most low = let less : n < most + 1 = ltb-true n (most + 1) low in le-leb n most (omega (arith, less))

int_suits : (kind : FieldKind) (n : ℤ) → suits kind (machine.Int n) ≡ true → FitsSigned w32 n
    → Suits kind (values.Int n)
int_suits kinds.Boolean (pos n) is fits =
    (fits, both (leb 0 n) (leb n 1) (le-leb 0 n (omega arith)) (at_most n 1 is))
int_suits kinds.Boolean (negsuc n) is fits = absurd (let less : n < 0 = ltb-true n 0 is in omega (arith, less))
int_suits kinds.Byte (pos n) is fits =
    (fits, both (int_le (negsuc 127) (pos n)) (leb n 127) refl (at_most n 127 is))
int_suits kinds.Byte (negsuc n) is fits =
    (fits, both (leb n 127) (int_le (negsuc n) (pos 127)) (at_most n 127 is) refl)
int_suits kinds.Char (pos n) is fits =
    (fits, both (leb 0 n) (leb n 65535) (le-leb 0 n (omega arith)) (at_most n 65535 is))
int_suits kinds.Char (negsuc n) is fits = absurd (let less : n < 0 = ltb-true n 0 is in omega (arith, less))
int_suits kinds.Short (pos n) is fits =
    (fits, both (int_le (negsuc 32767) (pos n)) (leb n 32767) refl (at_most n 32767 is))
int_suits kinds.Short (negsuc n) is fits =
    (fits, both (leb n 32767) (int_le (negsuc n) (pos 32767)) (at_most n 32767 is) refl)
int_suits kinds.Int (pos n) is fits =
    let less : n < 2147483648 = fits.sfits in (
      fits,
      both (int_le (negsuc 2147483647) (pos n)) (leb n 2147483647) refl
          (le-leb n 2147483647 (omega (arith, less))),
    )
int_suits kinds.Int (negsuc n) is fits =
    let less : n < 2147483648 = fits.sfits in (
      fits,
      both (leb n 2147483647) (int_le (negsuc n) (pos 2147483647)) (le-leb n 2147483647 (omega (arith, less)))
          refl,
    )
int_suits kind n is fits = absurd cc

long_suits : (kind : FieldKind) (n : ℤ) → suits kind (machine.Long n) ≡ true → FitsSigned w64 n
    → Suits kind (values.Long n)
long_suits kinds.Long n is fits = fits
long_suits kind n is fits = absurd cc

-- ---- elements

elements_of : (e : ElementType) (vs : List Value) → AreElements (kind_of_element e) vs
    → (has_values (kind_of_type e) ≡ true) × AllByRecursion (λ v. suits (kind_of_type e) v ≡ true) vs
elements_of elements.Float vs fit = absurd fit
elements_of elements.Double vs fit = absurd fit
elements_of e vs fit = (refl, fit)

components_of : (a : ArrayType) (vs : List Value) → AreElements (kind_of_component a) vs
    → (has_values (kind_of_elements a) ≡ true) × AllByRecursion (λ v. suits (kind_of_elements a) v ≡ true) vs
components_of a vs fit = by (tested (ltb 1 a.dimensions))
  where
    by : (ltb 1 a.dimensions ≡ true) ⊎ (ltb 1 a.dimensions ≡ false)
        → (has_values (kind_of_elements a) ≡ true) × AllByRecursion (λ v. suits (kind_of_elements a) v ≡ true) vs
    by (inl more) = rw more (refl, rw more at fit)
    by (inr one) = rw one (elements_of a.element vs (rw one at fit))

reference_kind : (a : ArrayType) (n : ℕ) → a.element ≡ elements.Unknown n → kind_of_elements a ≡ kinds.Reference
reference_kind a n unknown = by (tested (ltb 1 a.dimensions))
  where
    by : (ltb 1 a.dimensions ≡ true) ⊎ (ltb 1 a.dimensions ≡ false) → kind_of_elements a ≡ kinds.Reference
    by (inl more) = rw more refl
    by (inr one) = rw (one, unknown) refl

-- ---- classes

built_in_has : (b : BuiltIn) → has_instances b ≡ true → has_objects b ≡ true
built_in_has builtins.Enum has = absurd cc
built_in_has builtins.String has = absurd cc
built_in_has builtins.System has = absurd cc
built_in_has builtins.PrintStream has = absurd cc
built_in_has b has = refl

some_of : (dimensions : ℕ) (o : Option (List ℕ)) → is_name dimensions o ≡ true → is_some o ≡ true
some_of dimensions None is = absurd cc
some_of dimensions (Some text) is = refl

module _ (P : Tables) (has : HasFiles P) where
  -- ---- values

  units_fit : (s : ℕ) → AreUnits (units_in P.strings s)
  units_fit s =
      let text = text_fits P has s in
      let same : text.modified.units ≡ units_in P.strings s =
      units_are (get_or P.strings s []) text.modified.units text.modified.each (sym text.modified.spelled) in
      subst AreUnits same (record { count = text.few; each = text.modified.each })

  pub value_suits : (kind : FieldKind) (v : Value) → suits kind v ≡ true → FitsType v → IsSizedValue v
      → Suits kind (told_value P.strings v)
  value_suits kind (machine.Int n) is fits sized = int_suits kind n is fits
  value_suits kind (machine.Long n) is fits sized = long_suits kind n is fits
  value_suits kinds.Reference machine.Null is fits sized = tt
  value_suits kinds.Reference (machine.Text s) is fits sized = units_fit s
  value_suits kinds.Reference (machine.OfClass c n) is fits sized = (fits, sized)
  value_suits kinds.Reference (machine.OfThread t n) is fits sized = tt
  value_suits kinds.Reference machine.Out is fits sized = tt
  value_suits kind v is fits sized = absurd cc

  values_suit : (wanted : List FieldKind) (vs : List Value) → AllZip (λ kind v. suits kind v ≡ true) wanted vs
      → All FitsType vs → All IsSizedValue vs → AllZip Suits wanted (map (told_value P.strings) vs)
  values_suit [] [] are fits sized = tt
  values_suit [] (v ∷ vs) are fits sized = absurd are
  values_suit (kind ∷ wanted) [] are fits sized = absurd are
  values_suit (kind ∷ wanted) (v ∷ vs) are fits sized = (
    value_suits kind v are.0 (All-head FitsType v vs fits) (All-head IsSizedValue v vs sized),
    values_suit wanted vs are.1 (All-tail FitsType v vs fits) (All-tail IsSizedValue v vs sized),
  )

  elements_suit : (kind : FieldKind) (vs : List Value) → AllByRecursion (λ v. suits kind v ≡ true) vs
      → All FitsType vs → All IsSizedValue vs → All (Suits kind) (map (told_value P.strings) vs)
  elements_suit kind [] are fits sized = All-nil (Suits kind)
  elements_suit kind (v ∷ vs) are fits sized =
      All-cons (Suits kind) (told_value P.strings v) (map (told_value P.strings) vs)
      (value_suits kind v are.0 (All-head FitsType v vs fits) (All-head IsSizedValue v vs sized))
      (elements_suit kind vs are.1 (All-tail FitsType v vs fits) (All-tail IsSizedValue v vs sized))

  -- each static field has a value that suits it, from one on
  pub fields_suit : (wanted : List FieldKind) (a : ℕ) (fields : ℕ → Value)
      → ((k : ℕ) (kind : FieldKind) → slice_get wanted k ≡ Some kind
      → Suits kind (told_value P.strings (fields (a + k))))
      → AllZip Suits wanted (map (λ k. told_value P.strings (fields k)) (range_with_len a (length wanted)))
  fields_suit [] a fields each = tt
  fields_suit (kind ∷ wanted) a fields each = (
    subst (λ (m : ℕ). Suits kind (told_value P.strings (fields m))) (add-zero a) (each 0 kind refl),
    fields_suit wanted (a + 1) fields (λ k x at.
        let next : a + suc k ≡ a + 1 + k = omega arith in
        subst (λ (m : ℕ). Suits x (told_value P.strings (fields m))) next (each (suc k) x at)),
  )

  -- ---- arrays

  array_type : (a : ArrayType) (vs : List Value) → 1 ≤ a.dimensions → leb a.dimensions 255 ≡ true
      → is_name a.dimensions (element_text P.family a.element) ≡ true → AreElements (kind_of_component a) vs
      → IsArrayType P.family a
  array_type a vs some few named fit = record {
    some = some;
    few = leb-true a.dimensions 255 few;
    element = some_of a.dimensions (element_text P.family a.element) named;
    elements = (components_of a vs fit).0;
  }

  -- an array type with a name has a known element type
  known_has : (a : ArrayType) (e : ElementType) → is_name a.dimensions (element_text P.family e) ≡ true
      → IsArrayType P.family a → HasObjects P.family (told_array P.strings a e)
  known_has a (elements.Unknown n) named is = absurd cc
  known_has a e named is = is

  known_slots : (a : ArrayType) (e : ElementType) (ts : List ImageValue)
      → is_name a.dimensions (element_text P.family e) ≡ true → AreToldElements (kind_of_elements a) ts
      → AreSlots P.family (told_array P.strings a e) ts
  known_slots a (elements.Unknown n) ts named slots = absurd cc
  known_slots a e ts named slots = slots

  unknown_has : (a : ArrayType) → IsUnknownArray P a → HasObjects P.family (told_array P.strings a a.element)
  unknown_has a is =
      let spelled : get_or P.strings is.number [] ≡ is.name =
      get_or_from_slice_get P.strings is.number is.name [] is.named in
      let told : HasObjects P.family (told_array P.strings a (elements.Unknown is.number)) = record {
        least = is.least;
        most = is.most;
        unknown = subst (IsUnknownName P.family) (sym spelled) is.unknown;
        text = (text_fits P has is.number).modified;
      } in
      subst (λ (e : ElementType). HasObjects P.family (told_array P.strings a e)) (sym is.element) told

  unknown_slots : (a : ArrayType) (ts : List ImageValue) → IsUnknownArray P a
      → AreToldElements (kind_of_elements a) ts → AreSlots P.family (told_array P.strings a a.element) ts
  unknown_slots a ts is slots =
      let told : AreToldElements kinds.Reference ts =
      subst (λ (kind : FieldKind). AreToldElements kind ts) (reference_kind a is.number is.element) slots in
      subst (λ (e : ElementType). AreSlots P.family (told_array P.strings a e) ts) (sym is.element) told

  -- ---- objects

  class_has : (class : ClassId) (vs : List Value) → HasInstances P class → HaveSlots P class vs
      → HasObjects P.family (told_class P.strings class)
  class_has (classes.Given c) vs objects slots = objects
  class_has (classes.BuiltIn b) vs objects slots = built_in_has b objects
  class_has (classes.Array a) vs (inl known) slots =
      let is = and_parts (leb a.dimensions 255) (is_name a.dimensions (element_text P.family a.element)) known.1 in
      known_has a a.element is.1 (array_type a vs known.0 is.0 is.1 slots)
  class_has (classes.Array a) vs (inr unknown) slots = unknown_has a unknown

  slots_are : (class : ClassId) (vs : List Value) → HasInstances P class → HaveSlots P class vs → All FitsType vs
      → All IsSizedValue vs → elements_in class vs < 2 ^ 31
      → AreSlots P.family (told_class P.strings class) (map (told_value P.strings) vs)
  slots_are (classes.Given c) vs objects slots fits sized few = values_suit (slots_of P.family c) vs slots fits sized
  slots_are (classes.BuiltIn b) vs objects slots fits sized few = ap (map (told_value P.strings)) slots
  slots_are (classes.Array a) vs objects slots fits sized few = by objects
    where
      told : AreToldElements (kind_of_elements a) (map (told_value P.strings) vs)
      told = (
        omega (arith, few, length-map vs (told_value P.strings)),
        elements_suit (kind_of_elements a) vs (components_of a vs slots).1 fits sized,
      )

      by : HasInstances P (classes.Array a)
          → AreSlots P.family (told_array P.strings a a.element) (map (told_value P.strings) vs)
      by (inl known) =
          let is = and_parts (leb a.dimensions 255) (is_name a.dimensions (element_text P.family a.element)) known.1 in
          known_slots a a.element (map (told_value P.strings) vs) is.1 told
      by (inr unknown) = unknown_slots a (map (told_value P.strings) vs) unknown told

  pub object_told : (o : Object) → IsShaped P o → All FitsType o.slots → All IsSizedValue o.slots
      → elements_in o.class o.slots < 2 ^ 31 → ObjectHasShape P.family (told_object P.strings o)
  object_told o shape fits sized few = record {
    class = class_has o.class o.slots shape.class shape.slots;
    name = short_name P has o.class shape.class;
    slots = slots_are o.class o.slots shape.class shape.slots fits sized few;
  }
