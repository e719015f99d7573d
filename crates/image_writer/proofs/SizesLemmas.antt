-- The parts of an image have sizes that fit.
use Rattle.std.proofs.Common.{◌≡◌, ◌∙◌, ℕ, ◌+◌, ◌<◌, ◌^◌, ◌==◌, true, false, inl, inr}
use Rattle.std.proofs.Common.{ltb, leb}
use Rattle.std.proofs.Common.{List, [], ◌++◌, length, replicate, Option, Some, None, is_some, option_map}
use Rattle.std.proofs.Common.{get_or, slice_get, unwrap_or}
use Rattle.std.proofs.Common.{refl, sym, ap, subst, arith, length-append}
use Rattle.std.proofs.lemmas.Bool.{cases_lt, and_parts, ltb-true, leb-true}
use Rattle.std.proofs.lemmas.List.{length-replicate}
use Rattle.std.proofs.lemmas.Option.{get_or_from_slice_get}
use Rattle.std.proofs.lemmas.List.Elements.{All-from_recursion, All-weaker}
use Rattle.classfile.specs.ClassFile.{ClassFile}
use Rattle.built_in.specs.ClassNames.{name_of_built_in}
use Rattle.built_in.specs.declared.class_id.ArrayType.{ArrayType}
use Rattle.built_in.specs.declared.class_id.BuiltIn.{BuiltIn}
use Rattle.built_in.specs.declared.class_id.BuiltIn.TheVariants as builtins
use Rattle.built_in.specs.declared.class_id.ClassId.{ClassId}
use Rattle.built_in.specs.declared.class_id.ClassId.TheVariants as classes
use Rattle.built_in.specs.declared.class_id.ElementType.{ElementType}
use Rattle.built_in.specs.declared.class_id.ElementType.TheVariants as elements
use Rattle.vm_state.specs.declared.object.Object.{Object}
use Rattle.vm_state.specs.declared.value.Value.{Value}
use Rattle.vm_state.specs.declared.value.Value.TheVariants as values
use Rattle.vm_state.specs.declared.value.Maker.TheVariants.{Class}
use Rattle.vm_state.specs.SharedState.{Region}
use Rattle.vm_state.proofs.ListLemmas.{tested}
use Rattle.loading.specs.ClassIds.{element_text, object_type}
use Rattle.loading.specs.Families.{file_in}
use Rattle.loading.specs.Names.{name_of}
use Rattle.semantics.specs.Lawful.{Knows, KnowsAll, KnowsSlots}
use Rattle.semantics.specs.Quiet.{Environment, pool_seen}
use Rattle.program.specs.Arrays.{is_name}
use Rattle.program.specs.Tables.{Tables}
use Rattle.region_shape.specs.Counts.{is_held, is_there}
use Rattle.region_shape.specs.Shapes.{HasObjects}
use Rattle.region_shape.specs.Wholes.{AreWhole}
use Rattle.object_graph.specs.Images.{AreSmall}
use Rattle.image_format.specs.Names.{class_name, name_of_class}
use Rattle.image_format.specs.Told.{told_array, told_class}
use Rattle.image_writer.specs.steps.Sizes.{HasFiles, IsSizedValue, IsSizedObject, IsSizedRegion}
use Rattle.image_format.proofs.NamesLemmas.{name_fits}

-- ---- names of classes

short_built_in : (b : BuiltIn) → ltb (length (name_of_built_in b)) 65536 ≡ true
short_built_in builtins.Object = refl
short_built_in other = refl

module _ (P : Tables) (has : HasFiles P) where
  short_given : (c : ℕ) → length (class_name P.family (classes.Given c)) < 2 ^ 16
  short_given c = by (file_in P.family c) refl
    where
      by : (o : Option ClassFile) → file_in P.family c ≡ o → length (unwrap_or (option_map name_of o) []) < 2 ^ 16
      by None at = omega arith
      by (Some f) at = (name_fits f (has.files c f at)).0

  -- so many `[`, and a text
  abbrev IsShort : ℕ → Option (List ℕ) → Type 0
  IsShort d o = length (replicate d 91 ++ unwrap_or o []) < 2 ^ 16

  short_array : (d : ℕ) (o : Option (List ℕ)) → is_name d o ≡ true → IsShort d o
  short_array d None h = absurd cc
  short_array d (Some text) h =
      omega (
        arith,
        leb-true (d + length text) 65535 h,
        length-append (replicate d 91) text,
        length-replicate {A = ℕ} d 91,
      )

  -- the type's name is that of what is told of it, if it has one
  short_known : (a : ArrayType) (e : ElementType) → a.element ≡ e
      → is_name a.dimensions (element_text P.family e) ≡ true
      → IsShort a.dimensions (element_text P.family a.element)
      → length (name_of_class P.family (told_array P.strings a e)) < 2 ^ 16
  short_known a (elements.Unknown n) is named short = absurd cc
  short_known a e is named short = short

  short_unknown : (a : ArrayType) (n : ℕ) (name : List ℕ) → slice_get P.strings n ≡ Some name
      → is_name a.dimensions (Some (object_type name)) ≡ true
      → length (name_of_class P.family (told_array P.strings a (elements.Unknown n))) < 2 ^ 16
  short_unknown a n name at named =
      let text : get_or P.strings n [] ≡ name = get_or_from_slice_get P.strings n name [] at in
      let Q : List ℕ → Type 0 = λ z. length (replicate a.dimensions 91 ++ object_type z) < 2 ^ 16 in
      subst Q (sym text) (short_array a.dimensions (Some (object_type name)) named)

  pub short_name : (class : ClassId) → HasObjects P class
      → length (name_of_class P.family (told_class P.strings class)) < 2 ^ 16
  short_name (classes.Given c) objects = short_given c
  short_name (classes.BuiltIn b) objects = ltb-true (length (name_of_built_in b)) 65536 (short_built_in b)
  short_name (classes.Array a) (inr unknown) =
      let Q : ElementType → Type 0 = λ e. length (name_of_class P.family (told_array P.strings a e)) < 2 ^ 16 in
      subst Q (sym unknown.element) (short_unknown a unknown.number unknown.name unknown.named unknown.short)
  short_name (classes.Array a) (inl objects) =
      let text = element_text P.family a.element in
      let named = (and_parts (leb a.dimensions 255) (is_name a.dimensions text) objects.1).1 in
      short_known a a.element refl named (short_array a.dimensions text named)

-- ---- regions

module _ (P : Tables) (env : Environment) (has : HasFiles P) (whole : AreWhole P env) (small : AreSmall P env) (c : ℕ)
    (region : Region) (here : env c ≡ Some region) where
  held_few : (d n : ℕ) (r : Region) → env d ≡ Some r → is_some (r.pool.at n) ≡ true → n < 2 ^ 32
  held_few d n r at held = elim (cases_lt n r.pool.count) [
    | inl less ↦ omega (arith, less, small.objects d r at)
    | inr high ↦
        let none = ap is_some ((whole.shape d r at).no_more n high) in
        absurd (let clash : true ≡ false = sym held ∙ none in cc)
  ]

  few : (d n : ℕ) → is_held (pool_seen env c region (Class d)) n ≡ true → n < 2 ^ 32
  few d n = elim (tested (d == c)) [
    | inl e ↦ rw e (λ held. held_few c n region here held)
    | inr e ↦ rw e (by (env d) refl)
  ]
    where
      by : (o : Option Region) → env d ≡ o → is_held (option_map (λ (r : Region). r.pool) o) n ≡ true → n < 2 ^ 32
      by None at held = absurd cc
      by (Some r) at held = held_few d n r at held

  value_sized : (v : Value) → Knows (is_there env c region) v → IsSizedValue v
  value_sized (values.OfClass d n) known = few d n known
  value_sized other known = tt

  object_sized : (n : ℕ) (object : Object) → region.pool.at n ≡ Some object → IsSizedObject P object
  object_sized n object at =
      let names = whole.closed c region here in
      let known : KnowsAll (is_there env c region) object.slots =
      subst (λ o. KnowsSlots (is_there env c region) o)
      (ap (λ (o : Option Object). option_map (λ (x : Object). x.slots) o) at) (names.slots n) in
      let elements = small.elements c n region object here at in
      record {
        name = short_name P has object.class ((whole.shape c region here).objects n object at).class;
        elements = omega (arith, elements);
        slots =
            All-weaker (Knows (is_there env c region)) IsSizedValue value_sized object.slots
            (All-from_recursion (Knows (is_there env c region)) object.slots known);
      }

  pub region_sized : IsSizedRegion P region
  region_sized = record {
    statics = λ k. value_sized (region.fields k) ((whole.closed c region here).statics k);
    objects = object_sized;
  }
