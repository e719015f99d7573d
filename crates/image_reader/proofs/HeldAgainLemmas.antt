-- An image holds what its text tells of it, under the strings of its program.
use Rattle.std.proofs.Common.{◌≡◌, ◌∙◌, inl, inr, ℕ, ◌+◌, ◌<◌, ◌≤◌, true, false, leb}
use Rattle.std.proofs.Common.{List, [], ◌∷◌, length, map, get_or}
use Rattle.std.proofs.Common.{Option, Some, None, slice_get, option_map, refl, sym, ap, subst, arith}
use Rattle.std.specs.List.{AllByRecursion}
use Rattle.std.proofs.lemmas.Bool.{and_parts, cases_lt}
use Rattle.std.proofs.lemmas.List.{get_or_past}
use Rattle.std.proofs.lemmas.List.FromFn.{length-map-range_with_len, get_or-map-range_with_len}
use Rattle.std.proofs.lemmas.Option.{get_or_from_slice_get, slice_get-get_or, slice_get_past}
use Rattle.classfile.specs.Printing.{units_of}
use Rattle.classfile.specs.Units.{units_text}
use Rattle.built_in.specs.declared.class_id.ArrayType.{ArrayType}
use Rattle.built_in.specs.declared.class_id.ClassId.{ClassId}
use Rattle.built_in.specs.declared.class_id.ClassId.TheVariants as classes
use Rattle.built_in.specs.declared.class_id.ElementType.{ElementType}
use Rattle.built_in.specs.declared.class_id.ElementType.TheVariants as elements
use Rattle.loading.specs.ClassIds.{element_text}
use Rattle.vm_state.specs.declared.object.Object.{Object}
use Rattle.vm_state.specs.declared.value.Value.{Value}
use Rattle.vm_state.specs.declared.value.Value.TheVariants as machine
use Rattle.vm_state.specs.SharedState.{Region}
use Rattle.semantics.specs.Lawful.{HoldsOfSlots, Knows, KnowsAll, KnowsSlots}
use Rattle.semantics.specs.Quiet.{Environment}
use Rattle.program.specs.declared.runtime_constant.FieldKind.{FieldKind}
use Rattle.program.specs.Arrays.{is_name, IsUnknownArray}
use Rattle.program.specs.InstanceFields.{static_kinds}
use Rattle.program.specs.Tables.{Tables, statics_in}
use Rattle.region_shape.specs.Counts.{is_there}
use Rattle.region_shape.specs.Shapes.{HasObjects, SuitsField}
use Rattle.region_shape.specs.Texts.{HasText}
use Rattle.region_shape.specs.Wholes.{AreWhole}
use Rattle.object_graph.specs.Images.{AreSmall}
use Rattle.image_format.specs.Regions.{ImageObject, ImageRegion}
use Rattle.image_format.specs.Values.{ImageValue}
use Rattle.image_format.specs.Values as values
use Rattle.image_format.specs.Objects.{region_in}
use Rattle.image_format.specs.Told.{told_array, told_class, told_value, told_object, told_objects}
use Rattle.image_format.specs.Told.{told_fields, told_region, told_regions}
use Rattle.image_writer.specs.steps.Sizes.{HasFiles}
use Rattle.image_writer.proofs.FilesLemmas.{text_fits, units_are}
use Rattle.image_format.proofs.RowsLemmas.{told_at}
use Rattle.object_graph.proofs.ProgramsLemmas.{class_count, static_count}
use Rattle.image_parser.specs.reading.Held.{HoldsValue, HoldsValues, HoldsField, HoldsFields, HoldsText, HoldsType}
use Rattle.image_parser.specs.reading.Held.{HoldsObject, HoldsNumber, HoldsObjects, HoldsRegion, HoldsClass}
use Rattle.image_parser.specs.reading.Held.{HoldsRegions}

module _ (P : Tables) (has : HasFiles P) where
  abbrev S : List (List ℕ)
  S = P.strings

  text_again : (s : ℕ) → s < length S → HoldsText S (units_of (get_or S s [])) (machine.Text s)
  text_again s low =
      let modified = (text_fits P has s).modified in
      let units : modified.units ≡ units_of (get_or S s []) =
      units_are (get_or S s []) modified.units modified.each (sym modified.spelled) in
      record {
        number = s;
        spelled =
            slice_get-get_or S s [] low
            ∙ ap Some (modified.spelled ∙ ap (λ (us : List ℕ). units_text us) units);
        is = refl;
      }

  module _ (env : Environment) (c : ℕ) (own : Region) where
    value_again : (v : Value) → HasText P v → Knows (is_there env c own) v → HoldsValue S (told_value S v) v
    value_again (machine.Int n) text known = refl
    value_again (machine.Long n) text known = refl
    value_again machine.Null text known = refl
    value_again (machine.Text s) text known = text_again s text
    value_again (machine.OfClass d n) text known = refl
    value_again (machine.OfThread t n) text known =
        let no : false ≡ true = known in absurd cc
    value_again machine.Out text known = refl

    values_again : (vs : List Value) → AllByRecursion (HasText P) vs → KnowsAll (is_there env c own) vs
        → HoldsValues S (map (told_value S) vs) vs
    values_again [] texts known = tt
    values_again (v ∷ vs) texts known = (value_again v texts.0 known.0, values_again vs texts.1 known.1)

  -- ---- objects

  known_again : (a : ArrayType) (e : ElementType) → is_name a.dimensions (element_text P.family e) ≡ true
      → HoldsType S (told_array S a e) (classes.Array a)
  known_again a (elements.Unknown n) named = absurd cc
  known_again a e named = refl

  unknown_again : (a : ArrayType) → IsUnknownArray P a → HoldsType S (told_array S a a.element) (classes.Array a)
  unknown_again a is =
      let told : HoldsType S (told_array S a (elements.Unknown is.number)) (classes.Array a) = record {
        element = elements.Unknown is.number;
        holds = record {
          number = is.number;
          named = is.named ∙ ap Some (sym (get_or_from_slice_get S is.number is.name [] is.named));
          is = refl;
        };
        is = ap (λ (e : ElementType). classes.Array (record { dimensions = a.dimensions; element = e })) is.element;
      } in
      subst (λ (e : ElementType). HoldsType S (told_array S a e) (classes.Array a)) (sym is.element) told

  type_again : (class : ClassId) → HasObjects P class → HoldsType S (told_class S class) class
  type_again (classes.Given c) has = refl
  type_again (classes.BuiltIn b) has = refl
  type_again (classes.Array a) (inl known) =
      known_again a a.element
      (and_parts (leb a.dimensions 255) (is_name a.dimensions (element_text P.family a.element)) known.1).1
  type_again (classes.Array a) (inr unknown) = unknown_again a unknown

  -- ---- regions

  module _ (env : Environment) (whole : AreWhole P env) (small : AreSmall P env) where
    abbrev told : List (Option ImageRegion)
    told = told_regions P env

    module _ (c : ℕ) (r : Region) (here : env c ≡ Some r) where
      object_again : (n : ℕ) (o : Object) → r.pool.at n ≡ Some o → HoldsObject S (told_object S o) o
      object_again n o at =
          let shape = (whole.shape c r here).objects n o at in
          let slots = ap (λ (x : Option Object). option_map (λ (y : Object). y.slots) x) at in
          let texts : AllByRecursion (HasText P) o.slots =
          subst (λ x. HoldsOfSlots (HasText P) x) slots ((whole.texts c r here).slots n) in
          let known : KnowsAll (is_there env c r) o.slots =
          subst (λ x. KnowsSlots (is_there env c r) x) slots ((whole.closed c r here).slots n) in
          record {
            class = type_again o.class shape.class;
            slots = values_again env c r o.slots texts known;
            monitor = shape.monitor;
          }

      number_again : (n : ℕ) (o : Option Object) → r.pool.at n ≡ o → HoldsNumber S (option_map (told_object S) o) o
      number_again n None at = refl
      number_again n (Some o) at = object_again n o at

      objects_again : HoldsObjects S r.pool.count (told_objects S r.pool) r.pool
      objects_again = record {
        count = refl;
        each = λ n. subst (λ (x : Option ImageObject). HoldsNumber S x (r.pool.at n))
            (sym (told_at S r.pool n (whole.shape c r here).no_more)) (number_again n (r.pool.at n) refl);
      }

      abbrev statics : ℕ
      statics = length (statics_in P c)

      fields_again : HoldsFields S (told_fields S r.fields statics) r.fields
      fields_again k = elim (cases_lt k statics) [
        | inl low ↦ subst (λ (x : Option ImageValue). HoldsField S x (r.fields k)) (sym (within low))
            (value_again env c r (r.fields k) ((whole.texts c r here).statics k) ((whole.closed c r here).statics k))
        | inr high ↦ subst (λ (x : Option ImageValue). HoldsField S x (r.fields k))
            (sym (slice_get_past (told_fields S r.fields statics) k (omega (arith, high, count)))) (none high)
      ]
        where
          count : length (told_fields S r.fields statics) ≡ statics
          count = length-map-range_with_len (λ j. told_value S (r.fields j)) 0 statics

          within : k < statics → slice_get (told_fields S r.fields statics) k ≡ Some (told_value S (r.fields k))
          within low =
              let start : 0 + k ≡ k = omega arith in
              slice_get-get_or (told_fields S r.fields statics) k values.Null (omega (arith, low, count))
              ∙ ap Some (get_or-map-range_with_len (λ j. told_value S (r.fields j)) 0 statics k k values.Null low start)

          none : statics ≤ k → r.fields k ≡ machine.Null
          none high =
              subst (λ (o : Option FieldKind). SuitsField o (r.fields k))
              (slice_get_past (static_kinds P.family c) k (omega (arith, high, static_count P has.program c)))
              ((whole.shape c r here).statics k)

      region_again : HoldsRegion S (told_region P c r) r
      region_again = record { fields = fields_again; objects = objects_again }

    class_again : (c : ℕ) (o : Option Region) → env c ≡ o → HoldsClass S (option_map (told_region P c) o) o
    class_again c None is = refl
    class_again c (Some r) is = region_again c r is

    -- an image holds what is told of it
    pub held_again : HoldsRegions S told env
    held_again c = elim (cases_lt c (length P.family)) [
      | inl low ↦ subst (λ (x : Option ImageRegion). HoldsClass S x (env c)) (sym (within low))
          (class_again c (env c) refl)
      | inr high ↦ subst (λ (x : Option ImageRegion). HoldsClass S x (env c))
          (sym (get_or_past told c None (omega (arith, high, count)))) (none high (env c) refl)
    ]
      where
        count : length told ≡ length P.family
        count = length-map-range_with_len (λ k. option_map (told_region P k) (env k)) 0 (length P.family)

        within : c < length P.family → region_in told c ≡ option_map (told_region P c) (env c)
        within low =
            let start : 0 + c ≡ c = omega arith in
            get_or-map-range_with_len (λ k. option_map (told_region P k) (env k)) 0 (length P.family) c c None low start

        none : length P.family ≤ c → (o : Option Region) → env c ≡ o → env c ≡ None
        none high None is = is
        none high (Some r) is = absurd (omega (arith, high, small.classes c r is, class_count P has.program))
