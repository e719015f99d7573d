-- What an image's text tells of whole regions are regions of an image.
use Rattle.std.proofs.Common.{◌≡◌, ◌∙◌, ◌⊎◌, inl, inr, ℕ, zero, suc, ◌+◌, ◌<◌, ◌≤◌, ◌==◌, true, false}
use Rattle.std.proofs.Common.{List, [], ◌∷◌, length, map, Option, Some, None, is_some, slice_get, option_map}
use Rattle.std.proofs.Common.{refl, sym, ap, subst, arith, eqb-true}
use Rattle.std.specs.List.{All, AllZip, range_with_len}
use Rattle.std.proofs.lemmas.List.Elements.{All-nil, All-cons}
use Rattle.std.proofs.lemmas.Option.{get_or_from_slice_get, same_Some, slice_get_within}
use Rattle.classfile.specs.Class.{IsClassFile}
use Rattle.loading.specs.declared.given.GivenClass.{GivenClass}
use Rattle.loading.specs.Families.{Family, IsFamily, file_of}
use Rattle.loading.specs.Files.{Links}
use Rattle.vm_state.specs.declared.object.Object.{Object}
use Rattle.vm_state.specs.declared.value.Value.{Value}
use Rattle.vm_state.specs.declared.value.Value.TheVariants as machine
use Rattle.vm_state.specs.declared.value.Maker.TheVariants.{Class}
use Rattle.vm_state.specs.SharedState.{Region}
use Rattle.vm_state.proofs.ListLemmas.{tested}
use Rattle.semantics.specs.Lawful.{Knows, KnowsAll, KnowsSlots}
use Rattle.semantics.specs.Quiet.{Environment, pool_seen}
use Rattle.program.specs.declared.runtime_constant.FieldKind.{FieldKind}
use Rattle.program.specs.InstanceFields.{static_kinds}
use Rattle.program.specs.Tables.{Tables, statics_in}
use Rattle.region_shape.specs.Counts.{is_held, is_there}
use Rattle.region_shape.specs.Shapes.{SuitsField}
use Rattle.region_shape.specs.Wholes.{AreWhole}
use Rattle.object_graph.specs.Cuts.{AreReached}
use Rattle.object_graph.specs.Images.{AreSmall}
use Rattle.object_graph.specs.Reached.{object_among}
use Rattle.image_format.specs.Regions.{ImageRegion, KeptObject}
use Rattle.image_format.specs.Images.{AreRegions, AreClassFiles, AreShort, ImageText}
use Rattle.program.specs.Programs.{files_of}
use Rattle.image_format.specs.Images.{IsThere, NamesObjects}
use Rattle.image_format.specs.Objects.{object_of}
use Rattle.image_format.specs.declared.version.Version.TheVariants as versions
use Rattle.image_format.specs.Shapes.{HasShape, ObjectHasShape, Suits}
use Rattle.image_format.specs.Told.{told_value, told_object, told_region, told_regions}
use Rattle.image_format.specs.Texts.{image_text}
use Rattle.image_writer.specs.steps.Fits.{ClassFits}
use Rattle.image_writer.specs.steps.Sizes.{HasFiles}
use Rattle.object_graph.proofs.ProgramsLemmas.{class_count, static_count}
use Rattle.image_writer.proofs.SizesLemmas.{region_sized}
use Rattle.image_format.proofs.RowsLemmas.{numbered_told, all_told}
use Rattle.object_graph.proofs.ToldReachedLemmas.{told_count, told_of_class, told_reached, told_some}
use Rattle.image_writer.proofs.SuitsLemmas.{fields_suit, object_told, value_suits}

module _ (P : Tables) (env : Environment) (has : HasFiles P) (whole : AreWhole P env) (small : AreSmall P env)
    (fits : (c : ℕ) → c < length P.family → ClassFits P env c) where
  classes : length P.classes ≡ length P.family
  classes = class_count P has.program

  abbrev told : List (Option ImageRegion)
  told = told_regions P env

  no_more : (c : ℕ) (r : Region) → env c ≡ Some r → (n : ℕ) → r.pool.count ≤ n → r.pool.at n ≡ None
  no_more c r here = (whole.shape c r here).no_more

  low : (c : ℕ) (r : Region) → env c ≡ Some r → c < length P.family
  low c r here = omega (arith, small.classes c r here, classes)

  count : length told ≡ length P.family
  count = told_count P env no_more low

  module _ (c : ℕ) (r : Region) (here : env c ≡ Some r) where
    -- ---- shape

    abbrev wanted : List FieldKind
    wanted = static_kinds P.family c

    field_suits : (k : ℕ) (kind : FieldKind) → slice_get wanted k ≡ Some kind
        → Suits kind (told_value P.strings (r.fields k))
    field_suits k kind at =
        let suits_it : SuitsField (Some kind) (r.fields k) =
        subst (λ (o : Option FieldKind). SuitsField o (r.fields k)) at ((whole.shape c r here).statics k) in
        value_suits P has kind (r.fields k) suits_it
        ((fits c (low c r here) r here).statics k
        (omega (arith, slice_get_within wanted k kind at, static_count P has.program c)))
        ((region_sized P env has whole small c r here).statics k)

    statics_suit : AllZip Suits wanted (told_region P c r).statics
    statics_suit =
        subst (λ (n : ℕ). AllZip Suits wanted (map (λ k. told_value P.strings (r.fields k)) (range_with_len 0 n)))
        (sym (static_count P has.program c))
        (fields_suit P has wanted 0 r.fields (λ k kind at.
        let start : k ≡ 0 + k = omega arith in
        subst (λ (m : ℕ). Suits kind (told_value P.strings (r.fields m))) start (field_suits k kind at)))

    one_told : (n : ℕ) (o : Object) → r.pool.at n ≡ Some o → ObjectHasShape P.family (told_object P.strings o)
    one_told n o at =
        object_told P has o ((whole.shape c r here).objects n o at)
        ((fits c (low c r here) r here).slots n o at)
        ((region_sized P env has whole small c r here).objects n o at).slots (small.elements c n r o here at)

    shape_told : HasShape versions.Two P.family c (told_region P c r)
    shape_told = record {
      count = small.objects c r here;
      statics = statics_suit;
      many = tt;
      numbers = numbered_told P.strings r.pool.at 0 r.pool.count r.pool.count (omega arith);
      objects = all_told P.strings r.pool.at (λ (kept : KeptObject). ObjectHasShape P.family kept.object) 0 r.pool.count
          one_told;
    }

    -- ---- names

    seen : (d n : ℕ) → is_some (object_of told d n) ≡ is_held (pool_seen env c r (Class d)) n
    seen d n = told_some P env no_more low d n ∙ by (tested (d == c))
      where
        by : ((d == c) ≡ true) ⊎ ((d == c) ≡ false)
            → is_some (object_among (env d) n) ≡ is_held (pool_seen env c r (Class d)) n
        by (inl same) =
            let at : d ≡ c = eqb-true d c same in
            rw same (ap (λ (o : Option Region). is_some (object_among o n)) (ap env at ∙ here))
        by (inr other) = rw other (of_pool (env d))
          where
            of_pool : (o : Option Region)
                → is_some (object_among o n) ≡ is_held (option_map (λ (x : Region). x.pool) o) n
            of_pool None = refl
            of_pool (Some x) = refl

    value_there : (v : Value) → Knows (is_there env c r) v → IsThere told (told_value P.strings v)
    value_there (machine.OfClass d n) known = seen d n ∙ known
    value_there v known = tt

    values_there : (vs : List Value) → KnowsAll (is_there env c r) vs
        → All (IsThere told) (map (told_value P.strings) vs)
    values_there [] known = All-nil (IsThere told)
    values_there (v ∷ vs) known =
        All-cons (IsThere told) (told_value P.strings v) (map (told_value P.strings) vs) (value_there v known.0)
        (values_there vs known.1)

    statics_there : (ns : List ℕ) → All (IsThere told) (map (λ k. told_value P.strings (r.fields k)) ns)
    statics_there [] = All-nil (IsThere told)
    statics_there (k ∷ ns) =
        All-cons (IsThere told) (told_value P.strings (r.fields k)) (map (λ m. told_value P.strings (r.fields m)) ns)
        (value_there (r.fields k) ((whole.closed c r here).statics k)) (statics_there ns)

    slots_there : (n : ℕ) (o : Object) → r.pool.at n ≡ Some o
        → All (IsThere told) (told_object P.strings o).slots
    slots_there n o at =
        let known : KnowsAll (is_there env c r) o.slots =
        subst (λ x. KnowsSlots (is_there env c r) x)
        (ap (λ (x : Option Object). option_map (λ (y : Object). y.slots) x) at) ((whole.closed c r here).slots n) in
        values_there o.slots known

    names_told : NamesObjects told (told_region P c r)
    names_told = record {
      statics = statics_there (range_with_len 0 (length (statics_in P c)));
      slots =
          all_told P.strings r.pool.at (λ (kept : KeptObject). All (IsThere told) kept.object.slots) 0 r.pool.count
          slots_there;
    }

  -- ---- all regions

  record IsHeld (c : ℕ) (t : ImageRegion) : Type 0 where
    region : Region
    here : env c ≡ Some region
    is : told_region P c region ≡ t

  held_of : (c : ℕ) (t : ImageRegion) → slice_get told c ≡ Some (Some t) → IsHeld c t
  held_of c t at =
      let within : c < length P.family = omega (arith, slice_get_within told c (Some t) at, count) in
      by (env c) refl (sym (told_of_class P env no_more low c within) ∙ get_or_from_slice_get told c (Some t) None at)
    where
      by : (o : Option Region) → env c ≡ o → option_map (told_region P c) o ≡ Some t → IsHeld c t
      by None is same = absurd cc
      by (Some r) is same = record { region = r; here = is; is = same_Some (told_region P c r) t same }

  pub regions_are : AreReached P env → AreRegions versions.Two P.family told
  regions_are reached = record {
    count = count;
    shapes = λ c t at.
        let held = held_of c t at in
        subst (HasShape versions.Two P.family c) held.is (shape_told c held.region held.here);
    names = λ c t at.
        let held = held_of c t at in
        subst (NamesObjects told) held.is (names_told c held.region held.here);
    needed = told_reached P env no_more low reached;
  }

-- ---- the text

class_files : (family : Family)
    → ((c : ℕ) (given : GivenClass) → slice_get family c ≡ Some given → IsClassFile given.file)
    → AreClassFiles family
class_files [] files = All-nil (λ (given : GivenClass). IsClassFile given.file)
class_files (given ∷ family) files =
    All-cons (λ (g : GivenClass). IsClassFile g.file) given family (files zero given refl)
    (class_files family (λ c g at. files (suc c) g at))

pub is_text : (P : Tables) (env : Environment) → HasFiles P → IsFamily P.family → AreWhole P env → AreSmall P env
    → AreReached P env → ((c : ℕ) → c < length P.family → ClassFits P env c) → AreShort P.family
    → Links (files_of P.family)
    → ImageText (image_text versions.Two P.family (told_regions P env)) P.family (told_regions P env)
is_text P env has family whole small reached fits short links = record {
  classes = family;
  files = class_files P.family (λ c given at. has.files c given.file (ap file_of at));
  links = links;
  short = short;
  fits = regions_are P env has whole small fits reached;
  spelled = refl;
}
