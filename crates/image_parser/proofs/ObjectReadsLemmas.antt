-- What is held of objects and regions that are read.
use Rattle.std.proofs.Common.{◌≡◌, ◌∙◌, inl, inr, ℕ, ◌+◌, ◌<◌, ◌≤◌, List, [], ◌∷◌, ◌++◌}
use Rattle.std.proofs.Common.{Option, Some, None, Result, Ok, refl, sym, ap, subst, arith, ltb}
use Rattle.std.specs.List.{All}
use Rattle.std.proofs.lemmas.List.Elements.{All-head, All-tail}
use Rattle.built_in.specs.declared.class_id.ArrayType.{ArrayType}
use Rattle.built_in.specs.declared.class_id.ClassId.{ClassId}
use Rattle.built_in.specs.declared.class_id.ClassId.TheVariants as classes
use Rattle.built_in.specs.declared.class_id.ElementType.{ElementType}
use Rattle.built_in.specs.declared.class_id.ElementType.TheVariants as elements
use Rattle.loading.specs.Families.{Family}
use Rattle.vm_state.specs.declared.object.Object.{Object}
use Rattle.vm_state.specs.declared.object.Monitor.TheVariants.{Free}
use Rattle.vm_state.specs.declared.value.Value.{Value}
use Rattle.vm_state.specs.Objects.{HeldObjects, AscendsFrom}
use Rattle.vm_state.specs.Pools.{pool_by}
use Rattle.vm_state.specs.SharedState.{Pool, Region}
use Rattle.vm_state.specs.Statics.{field_in}
use Rattle.vm_state.proofs.ListLemmas.{tested}
use Rattle.program.specs.declared.runtime_constant.FieldKind.{FieldKind}
use Rattle.program.specs.declared.runtime_constant.FieldKind.TheVariants as kinds
use Rattle.program.specs.InstanceFields.{static_kinds}
use Rattle.program.specs.Tables.{Tables}
use Rattle.image_format.specs.Classes.{ImageClass}
use Rattle.image_format.specs.Classes as image
use Rattle.image_format.specs.declared.version.Version.{Version}
use Rattle.image_format.specs.declared.version.Version.TheVariants as versions
use Rattle.image_format.specs.Elements.{kind_of_elements}
use Rattle.image_format.specs.Objects.{object_with}
use Rattle.image_format.specs.Regions.{ImageObject, ImageRegion, KeptObject}
use Rattle.image_format.specs.Shapes.{AreNumbered}
use Rattle.image_format.specs.Values.{ImageValue}
use Rattle.image_format.proofs.DroppedLemmas.{found_all}
use Rattle.image_parser.specs.declared.fault.RegionFault.{RegionFault}
use Rattle.image_parser.specs.reading.Held.{AddsStrings, HoldsAt, HoldsClass, HoldsElement, HoldsFields, HoldsKept}
use Rattle.image_parser.specs.reading.Held.{HoldsNumber, HoldsObject, HoldsObjects, HoldsRegion, HoldsKeptAll}
use Rattle.image_parser.specs.reading.Held.{HoldsType}
use Rattle.image_parser.specs.reading.Held.{HoldsValues}
use Rattle.image_parser.specs.reading.Objects.{array_at, class_at, class_for, counted_region_at, formed_at, kept_at}
use Rattle.image_parser.specs.reading.Objects.{kept_of, known_slots_at, many_at, name_at, object_at, object_number_at}
use Rattle.image_parser.specs.reading.Objects.{object_of, objects_at, region_of, slots_at, so_many_at, unknown_if}
use Rattle.image_parser.specs.reading.Reads.{IsHeld}
use Rattle.image_parser.specs.reading.Results.{each_at}
use Rattle.image_parser.specs.reading.Unknown.{unknown_of}
use Rattle.image_parser.specs.reading.Values.{value_at}
use Rattle.image_parser.proofs.HeldLemmas.{adds_more, all_fields, fields_kept, row_holds_all, type_kept}
use Rattle.image_parser.proofs.ReadsLemmas.{Strings}
use Rattle.image_parser.proofs.SameLemmas.{of_array, values_of_fields}

-- ---- classes

-- an array class of an element type that is held
pub unknown_held : (P Q : Tables) (form d : ℕ) (name class : List ℕ) (element : ElementType)
    → unknown_of name ≡ Some (d, class) → form ≡ 1 → HoldsElement Q.strings class element → AddsStrings P Q
    → ((e : ElementType) → HoldsElement P.strings class e → Q ≡ P)
    → IsHeld HoldsType P Q (classes.Array (record { dimensions = d; element = element })) (λ told. told)
    (unknown_if form (unknown_of name))
unknown_held P Q form d name class element is one holds adds same = record {
  told = image.UnknownArray d class;
  is = rw (is, one) refl;
  holds = record { element = element; holds = holds; is = refl };
  adds = adds;
  same = λ other held.
      let e = of_array P.strings (image.UnknownArray d class) d class other refl held in same e.0 e.1;
}

-- the class after its name
pub class_held : (P Q : Tables) (form : ℕ) (bytes name rest : List ℕ) (class : ClassId)
    → name_at bytes ≡ Ok (name, rest) → IsHeld HoldsType P Q class (λ told. told) (class_for P.family form name)
    → IsHeld HoldsType P Q class (λ told. (told, rest)) (class_at P.family form bytes)
unfolding class_at
class_held P Q form bytes name rest class named h = record {
  told = h.told;
  is = rw (named, h.is) refl;
  holds = h.holds;
  adds = h.adds;
  same = h.same;
}

-- ---- slots

-- elements of an array of an element type that is neither given nor built in are references
references : (a : ArrayType) (n : ℕ) → a.element ≡ elements.Unknown n → kind_of_elements a ≡ kinds.Reference
references a n unknown = elim (tested (ltb 1 a.dimensions)) [
  | inl more ↦ rw more refl
  | inr one ↦ rw (one, unknown) refl
]

-- what follows a class by what the machine holds of it
same_slots : (S : Strings) (family : Family) (told : ImageClass) (class : ClassId) (bytes : List ℕ)
    → HoldsType S told class → slots_at family told bytes ≡ known_slots_at family class bytes
same_slots S family (image.Known told) class bytes holds =
    ap (λ (x : ClassId). known_slots_at family x bytes) (sym holds)
same_slots S family (image.UnknownArray d name) class bytes holds =
    let a : ArrayType = record { dimensions = d; element = holds.element } in
    ap (λ (kind : FieldKind). array_at kind bytes) (sym (references a holds.holds.number holds.holds.is))
    ∙ ap (λ (x : ClassId). known_slots_at family x bytes) (sym holds.is)

-- ---- objects

pub object_held : (P Q R : Tables) (form : ℕ) (bytes middle rest : List ℕ) (class : ClassId) (slots : List Value)
    → IsHeld HoldsType P Q class (λ told. (told, middle)) (class_at P.family form bytes)
    → IsHeld HoldsValues Q R slots (λ told. (told, rest)) (known_slots_at Q.family class middle)
    → IsHeld HoldsObject P R (record { class = class; slots = slots; monitor = Free }) (λ told. (told, rest))
    (formed_at P.family form bytes)
unfolding formed_at
object_held P Q R form bytes middle rest class slots first second = record {
  told = object_of first.told second.told;
  is =
      let slots_is : slots_at P.family first.told middle ≡ Ok (second.told, rest) =
      same_slots Q.strings P.family first.told class middle first.holds
      ∙ (ap (λ (f : Family). known_slots_at f class middle) (sym first.adds.family) ∙ second.is) in
      rw (first.is, slots_is) refl;
  holds = record {
    class = type_kept Q.strings R.strings second.adds.added second.adds.strings first.told class first.holds;
    slots = second.holds;
    monitor = refl;
  };
  adds = adds_more P Q R first.adds second.adds;
  same = λ other held.
      let before : Q ≡ P = first.same other.class held.class in
      second.same other.slots
      (subst (λ (x : Tables). HoldsValues x.strings second.told other.slots) (sym before) held.slots)
      ∙ before;
}

pub kept_held : (P Q : Tables) (version : Version) (count least number : ℕ) (bytes middle rest : List ℕ)
    (object : Object) → object_number_at version count least bytes ≡ Ok (number, middle)
    → IsHeld HoldsObject P Q object (λ told. (told, rest)) (object_at P.family middle)
    → IsHeld HoldsKept P Q (number, object) (λ told. (told, rest)) (kept_at version P.family count least bytes)
unfolding kept_at
kept_held P Q version count least number bytes middle rest object numbered h = record {
  told = kept_of number h.told;
  is = rw (numbered, h.is) refl;
  holds = (refl, h.holds);
  adds = h.adds;
  same = λ other held. h.same other.1 held.1;
}

-- ---- rows

pub ascends_more : (low least count : ℕ) (row : List (ℕ × Object)) (number : ℕ) (object : Object)
    → AscendsFrom low row least → least ≤ number → AscendsFrom low (row ++ (number, object) ∷ []) (number + 1)
ascends_more low least count [] number object rises le = (omega (arith, rises, le), omega arith)
ascends_more low least count (o ∷ os) number object rises le =
    (rises.0, ascends_more (o.0 + 1) least count os number object rises.1 le)

pub ascends_up : (low least count : ℕ) (row : List (ℕ × Object)) → AscendsFrom low row least → least ≤ count
    → AscendsFrom low row count
ascends_up low least count [] rises le = omega (arith, rises, le)
ascends_up low least count (o ∷ os) rises le = (rises.0, ascends_up (o.0 + 1) least count os rises.1 le)

-- numbers that ascend in the row are those of what is told
pub numbered_by : (S : Strings) (low count : ℕ) (told : List KeptObject) (row : List (ℕ × Object)) → HoldsKeptAll S
    told row
    → AscendsFrom low row count → AreNumbered versions.Two count low told
numbered_by S low count [] [] holds rises = tt
numbered_by S low count [] (o ∷ os) holds rises = tt
numbered_by S low count (t ∷ ts) [] holds rises = absurd holds
numbered_by S low count (t ∷ ts) (o ∷ os) holds rises =
    let is : o.0 ≡ t.number = holds.0.0 in
    let Q : ℕ → Type 0 = λ n. (low ≤ n) × (n < count) in
    let R : ℕ → Type 0 = λ n. AreNumbered versions.Two count (n + 1) ts in (
      subst Q is (rises.0, least_of (o.0 + 1) os rises.1 (omega arith)),
      subst R is (numbered_by S (o.0 + 1) count ts os holds.1 rises.1),
    )
  where
    least_of : (n : ℕ) (xs : List (ℕ × Object)) → AscendsFrom n xs count → o.0 + 1 ≤ n → o.0 < count
    least_of n [] up le = omega (arith, up, le)
    least_of n (x ∷ xs) up le = (let low = up.0 in least_of (x.0 + 1) xs up.1 (omega (arith, low, le)))

-- a row of what is told, from objects by their numbers
row_of : (S : Strings) (told : List KeptObject) (all : List KeptObject) (pool : Pool)
    → All (λ (kept : KeptObject). object_with all kept.number ≡ Some kept.object) told → HoldsAt S all pool
    → (row : List (ℕ × Object)) × HoldsKeptAll S told row
row_of S [] all pool found holds = ([], tt)
row_of S (t ∷ ts) all pool found holds =
    let F : KeptObject → Type 0 = λ kept. object_with all kept.number ≡ Some kept.object in
    let later = row_of S ts all pool (All-tail F t ts found) holds in
    let here = one (pool.at t.number)
    (subst (λ (x : Option ImageObject). HoldsNumber S x (pool.at t.number)) (All-head F t ts found) (holds t.number)) in
    ((t.number, here.0) ∷ later.0, ((refl, here.1), later.1))
  where
    one : (o : Option Object) → HoldsNumber S (Some t.object) o → (x : Object) × HoldsObject S t.object x
    one None held = absurd held
    one (Some x) held = (x, held)

pub objects_held : (P Q : Tables) (version : Version) (count many : ℕ) (bytes middle rest : List ℕ)
    (objects : List (ℕ × Object)) (row : HeldObjects) → many_at version count bytes ≡ Ok (many, middle)
    → AscendsFrom 0 objects count → row ≡ record { count = count; objects = objects }
    → IsHeld HoldsKeptAll P Q objects (λ told. (told, rest)) (so_many_at version P.family count many middle)
    → IsHeld (λ (S : Strings). HoldsObjects S count) P Q (pool_by row) (λ told. (told, rest))
    (objects_at version P.family count bytes)
unfolding objects_at
objects_held P Q version count many bytes middle rest objects row counted rises is h =
    let numbers = numbered_by Q.strings 0 count h.told objects h.holds rises in
    record {
      told = h.told;
      is = rw (counted, h.is) refl;
      holds = row_holds_all Q.strings count h.told row objects is numbers h.holds;
      adds = h.adds;
      same = λ other held.
          let held_row = row_of P.strings h.told h.told other (found_all count 0 h.told numbers) held.each in
          h.same held_row.0 held_row.1;
    }

-- ---- static fields

pub statics_held : (P Q : Tables) (rest : List ℕ) (values : List Value) (fields : ℕ → Value)
    (read : Result (List ImageValue × List ℕ) RegionFault) → fields ≡ field_in values
    → IsHeld HoldsValues P Q values (λ told. (told, rest)) read
    → IsHeld HoldsFields P Q fields (λ told. (told, rest)) read
statics_held P Q rest values fields read is h = record {
  told = h.told;
  is = h.is;
  holds = subst (HoldsFields Q.strings h.told) (sym is) (all_fields Q.strings h.told values h.holds);
  adds = h.adds;
  same = λ other held. let vs = values_of_fields P.strings h.told other held in h.same vs.0 vs.1;
}

-- ---- regions

pub region_held : (P Q R : Tables) (version : Version) (c count : ℕ) (bytes middle rest : List ℕ)
    (fields : ℕ → Value) (pool : Pool)
    → IsHeld HoldsFields P Q fields (λ told. (told, middle)) (each_at value_at (static_kinds P.family c) [] bytes)
    → IsHeld (λ (S : Strings). HoldsObjects S count) Q R pool (λ told. (told, rest))
    (objects_at version Q.family count middle)
    → IsHeld HoldsRegion P R (record { fields = fields; pool = pool }) (λ told. (told, rest))
    (counted_region_at version P.family c count bytes)
unfolding counted_region_at
region_held P Q R version c count bytes middle rest fields pool first second = record {
  told = region_of count first.told second.told;
  is =
      let objects_is : objects_at version P.family count middle ≡ Ok (second.told, rest) =
      ap (λ (f : Family). objects_at version f count middle) (sym first.adds.family) ∙ second.is in
      rw (first.is, objects_is) refl;
  holds = record {
    fields = fields_kept Q.strings R.strings second.adds.added second.adds.strings first.told fields first.holds;
    objects = second.holds;
  };
  adds = adds_more P Q R first.adds second.adds;
  same = λ other held.
      let before : Q ≡ P = first.same other.fields held.fields in
      second.same other.pool
      (subst (λ (x : Tables). HoldsObjects x.strings count second.told other.pool) (sym before) held.objects)
      ∙ before;
}

-- that of a class that is initialized
pub some_held : (P Q : Tables) (rest : List ℕ) (region : Region) (read : Result (ImageRegion × List ℕ) RegionFault)
    (then : Result (Option ImageRegion × List ℕ) RegionFault)
    → ((told : ImageRegion) → read ≡ Ok (told, rest) → then ≡ Ok (Some told, rest))
    → IsHeld HoldsRegion P Q region (λ told. (told, rest)) read
    → IsHeld HoldsClass P Q (Some region) (λ told. (told, rest)) then
some_held P Q rest region read then is h = record {
  told = Some h.told;
  is = is h.told h.is;
  holds = h.holds;
  adds = h.adds;
  same = λ other held. one other held;
}
  where
    one : (other : Option Region) → HoldsClass P.strings (Some h.told) other → Q ≡ P
    one None held = absurd held
    one (Some r) held = h.same r held
