-- How bytes fail to begin with a region of a class: the first of the checks, in the order of the format, that fails.
use Rattle.std.specs.Prelude.{◌≡◌, ℕ, ◌+◌, ◌<◌, ◌^◌, true, List, [], length, Option, Some, None}
use Rattle.std.specs.List.{AllZip, flat_map}
use Rattle.std.specs.Int.{Width, w8, w16, w32, w64, byte_len, cast_signed}
use Rattle.classfile.specs.Faults.{Either, Number}
use Rattle.classfile.specs.FirstFault.{BreaksOr, Ruled, RuleFails}
use Rattle.built_in.specs.declared.class_id.ClassId.{ClassId}
use Rattle.built_in.specs.declared.class_id.ClassId.TheVariants as classes
use Rattle.loading.specs.Families.{Family}
use Rattle.program.specs.declared.runtime_constant.FieldKind.{FieldKind}
use Rattle.program.specs.declared.runtime_constant.FieldKind.TheVariants as kinds
use Rattle.program.specs.InstanceFields.{slots_of, static_kinds}
use Rattle.image_format.specs.Values.{ImageValue}
use Rattle.image_format.specs.Classes.{ImageClass}
use Rattle.image_format.specs.Classes as image
use Rattle.image_format.specs.Regions.{ImageObject, ImageRegion, KeptObject}
use Rattle.image_format.specs.declared.version.Version.{Version}
use Rattle.image_format.specs.declared.version.Version.TheVariants as versions
use Rattle.image_format.specs.Elements.{kind_of_elements}
use Rattle.image_format.specs.Names.{name_of_class}
use Rattle.image_format.specs.Shapes.{Suits, is_in_range, HasObjects, ObjectHasShape, IsNumber, HasShape}
use Rattle.image_format.specs.Texts.{value_text, element_text, object_text, number_text, kept_text, region_text}
use Rattle.image_format.specs.Texts.{named_text}
use Rattle.image_parser.specs.declared.fault.RegionFault.{RegionFault}
use Rattle.image_parser.specs.declared.fault.RegionFault.TheVariants as faults
use Rattle.image_parser.specs.declared.tag.Tag.{Tag}
use Rattle.image_parser.specs.declared.tag.Tag.TheVariants as tags
use Rattle.image_parser.specs.FirstFailing.{EachFails, ChainFails, times}
use Rattle.image_parser.specs.Tags.{tag_of, may_have}

abbrev pub Cut : ℕ → List ℕ → RegionFault → Type 0
Cut count bytes fault = (length bytes < count) × (fault ≡ faults.Truncated)

abbrev pub CutNumber : Width → List ℕ → RegionFault → Type 0
CutNumber w bytes fault = Cut (byte_len w) bytes fault

-- ---- values

-- units of 16 bits
abbrev pub IsUnit : Unit {0} → ℕ → List ℕ → Type 0
IsUnit one = Number w16

abbrev pub UnitsFail : ℕ → List ℕ → RegionFault → Type 0
UnitsFail count = EachFails IsUnit (λ (one : Unit {0}). CutNumber w16) (times count)

-- what follows a tag
abbrev pub BodyFails : FieldKind → Tag → List ℕ → RegionFault → Type 0
BodyFails kind tags.Null = λ bytes fault. ⊥
BodyFails kind tags.Int =
    RuleFails (Number w32) (CutNumber w32) (λ bits. is_in_range kind (cast_signed w32 bits) ≡ true)
    (λ bits. faults.Shape)
BodyFails kind tags.Long = CutNumber w64
BodyFails kind tags.Text = Either (Number w16) (CutNumber w16) UnitsFail
BodyFails kind tags.Object = Either (Number w32) (CutNumber w32) (λ class. CutNumber w32)
BodyFails kind tags.Out = λ bytes fault. ⊥

-- a tag that there is not, or that values of the kind do not have
abbrev pub TaggedFails : FieldKind → Option Tag → List ℕ → RegionFault → Type 0
TaggedFails kind None bytes fault = fault ≡ faults.Shape
TaggedFails kind (Some tag) bytes fault = BreaksOr (may_have kind tag ≡ true) faults.Shape
    (BodyFails kind tag bytes) fault

abbrev pub ValueFails : FieldKind → List ℕ → RegionFault → Type 0
ValueFails kind = Either (Number w8) (CutNumber w8) (λ tag. TaggedFails kind (tag_of tag))

-- a value of a kind, with its tag
abbrev pub IsValue : FieldKind → ImageValue → List ℕ → Type 0
IsValue kind v text = Suits kind v × (text ≡ value_text v)

-- ---- elements of arrays

abbrev pub ElementFails : FieldKind → List ℕ → RegionFault → Type 0
ElementFails kinds.Byte = CutNumber w8
ElementFails kinds.Char = CutNumber w16
ElementFails kinds.Short = CutNumber w16
ElementFails kinds.Int = CutNumber w32
ElementFails kinds.Long = CutNumber w64
ElementFails kind = ValueFails kind

abbrev pub IsElement : FieldKind → ImageValue → List ℕ → Type 0
IsElement kind v text = Suits kind v × (text ≡ element_text kind v)

-- so many elements
abbrev pub ElementsFail : FieldKind → ℕ → List ℕ → RegionFault → Type 0
ElementsFail kind n =
    EachFails (λ (one : Unit {0}). IsElement kind) (λ (one : Unit {0}). ElementFails kind) (times n)

-- ---- objects

-- the form of an object of a class: 1 of arrays, 0 of instances
abbrev pub known_form : ClassId → ℕ
known_form (classes.Array a) = 1
known_form _ = 0

abbrev pub form_of : ImageClass → ℕ
form_of (image.Known class) = known_form class
form_of (image.UnknownArray dimensions name) = 1

abbrev pub NameFails : List ℕ → RegionFault → Type 0
NameFails = Either (Number w16) (CutNumber w16) Cut

-- a name, by its count of 16 bits
abbrev pub IsName : List ℕ → List ℕ → Type 0
IsName name text = (length name < 2 ^ 16) × (text ≡ named_text name)

-- the name is that of a class of this form of which there can be an object
abbrev pub NamesClass : Family → ℕ → List ℕ → Type 0
NamesClass family form name =
    (class : ImageClass) × (HasObjects family class × ((form_of class ≡ form) × (name ≡ name_of_class family class)))

-- such a class, by its name
pub record IsObjectClass (family : Family) (form : ℕ) (class : ImageClass) (text : List ℕ) : Type 0 where
  pub has : HasObjects family class
  pub of_form : form_of class ≡ form
  pub count : length (name_of_class family class) < 2 ^ 16
  pub spelled : text ≡ named_text (name_of_class family class)

abbrev pub ClassFails : Family → ℕ → List ℕ → RegionFault → Type 0
ClassFails family form = RuleFails IsName NameFails (NamesClass family form) (λ name. faults.Shape)

-- the count of the elements of an array, and these
abbrev pub ArrayFails : FieldKind → List ℕ → RegionFault → Type 0
ArrayFails kind = Either (Ruled (Number w32) (λ n. n < 2 ^ 31))
    (RuleFails (Number w32) (CutNumber w32) (λ n. n < 2 ^ 31) (λ n. faults.Shape))
    (ElementsFail kind)

abbrev pub KnownSlotsFail : Family → ClassId → List ℕ → RegionFault → Type 0
KnownSlotsFail family (classes.Given c) = EachFails IsValue ValueFails (slots_of family c)
KnownSlotsFail family (classes.BuiltIn b) = λ bytes fault. ⊥
KnownSlotsFail family (classes.Array a) = ArrayFails (kind_of_elements a)

-- what follows the name of a class
abbrev pub SlotsFail : Family → ImageClass → List ℕ → RegionFault → Type 0
SlotsFail family (image.Known class) = KnownSlotsFail family class
SlotsFail family (image.UnknownArray dimensions name) = ArrayFails kinds.Reference

-- the form, which is 0 or 1, the class, and its slots
abbrev pub ObjectFails : Family → List ℕ → RegionFault → Type 0
ObjectFails family = Either (Ruled (Number w8) (λ form. form < 2))
    (RuleFails (Number w8) (CutNumber w8) (λ form. form < 2) (λ form. faults.Shape))
    (λ form. Either (IsObjectClass family form) (ClassFails family form) (SlotsFail family))

abbrev pub IsObject : Family → ImageObject → List ℕ → Type 0
IsObject family object text = ObjectHasShape family object × (text ≡ object_text family object)

-- ---- objects with their numbers

-- the number of the next object, after those below this one
abbrev pub IsNumberText : Version → ℕ → ℕ → ℕ → List ℕ → Type 0
IsNumberText version count least n text = IsNumber version count least n × (text ≡ number_text version n)

-- version 1 spells none
abbrev pub NumberFails : Version → ℕ → ℕ → List ℕ → RegionFault → Type 0
NumberFails versions.One count least = λ bytes fault. ⊥
NumberFails versions.Two count least =
    RuleFails (Number w32) (CutNumber w32) (IsNumber versions.Two count least) (λ n. faults.Shape)

-- the number, then the object
abbrev pub KeptFails : Version → Family → ℕ → ℕ → List ℕ → RegionFault → Type 0
KeptFails version family count least =
    Either (IsNumberText version count least) (NumberFails version count least) (λ n. ObjectFails family)

abbrev pub KeptFits : Version → Family → ℕ → ℕ → KeptObject → Type 0
KeptFits version family count least kept =
    IsNumber version count least kept.number × ObjectHasShape family kept.object

abbrev pub IsKept : Version → Family → ℕ → ℕ → KeptObject → List ℕ → Type 0
IsKept version family count least kept text =
    KeptFits version family count least kept × (text ≡ kept_text version family kept)

-- the numbers of later objects are above this one
abbrev pub above : KeptObject → ℕ
above kept = kept.number + 1

-- so many objects
abbrev pub ObjectsFail : Version → Family → ℕ → ℕ → List ℕ → RegionFault → Type 0
ObjectsFail version family count many =
    ChainFails (IsKept version family count) (KeptFails version family count) above many 0

-- ---- regions

-- how many objects there are, which version 1 does not spell
abbrev pub IsMany : Version → ℕ → ℕ → List ℕ → Type 0
IsMany versions.One count many text = (many ≡ count) × (text ≡ [])
IsMany versions.Two count many text = Number w32 many text

abbrev pub ManyFails : Version → List ℕ → RegionFault → Type 0
ManyFails versions.One = λ bytes fault. ⊥
ManyFails versions.Two = CutNumber w32

abbrev pub AreStatics : Family → ℕ → List ImageValue → List ℕ → Type 0
AreStatics family c vs text = AllZip Suits (static_kinds family c) vs × (text ≡ flat_map value_text vs)

-- the count of the objects that were made, the statics, how many objects there are, these
abbrev pub RegionFails : Version → Family → ℕ → List ℕ → RegionFault → Type 0
RegionFails version family c = Either (Number w32) (CutNumber w32) (λ count.
    Either (AreStatics family c) (EachFails IsValue ValueFails (static_kinds family c)) (λ statics.
    Either (IsMany version count) (ManyFails version) (λ many. ObjectsFail version family count many)))

-- a region of a class
abbrev pub IsRegion : Version → Family → ℕ → ImageRegion → List ℕ → Type 0
IsRegion version family c region text =
    HasShape version family c region × (text ≡ region_text version family region)
