-- The one text of each part of an image: a function of what it holds. Numbers are big-endian.
use Rattle.std.specs.Prelude.{ℕ, List, [], ◌++◌, length, Option, Some, None}
use Rattle.std.specs.List.{flat_map}
use Rattle.std.specs.Int.{w8, w16, w32, w64, to_be_bytes, cast_unsigned}
use Rattle.sha2.specs.Sha256.{sha256}
use Rattle.classfile.specs.ClassFile.{ClassFile}
use Rattle.classfile.specs.Spelling.{u1, u2, u4}
use Rattle.classfile.specs.Text.{class_text}
use Rattle.built_in.specs.declared.class_id.ClassId.{ClassId}
use Rattle.built_in.specs.declared.class_id.ClassId.TheVariants as classes
use Rattle.loading.specs.declared.given.GivenClass.{GivenClass}
use Rattle.loading.specs.Families.{Family}
use Rattle.image_format.specs.Values.{ImageValue}
use Rattle.image_format.specs.Values as values
use Rattle.image_format.specs.Classes.{ImageClass}
use Rattle.image_format.specs.Classes as image
use Rattle.image_format.specs.Regions.{ImageObject, ImageRegion, KeptObject}
use Rattle.image_format.specs.declared.version.Version.{Version}
use Rattle.image_format.specs.declared.version.Version.TheVariants as versions
use Rattle.image_format.specs.Names.{name_of_class}
use Rattle.image_format.specs.Elements.{kind_of_elements}
use Rattle.program.specs.declared.runtime_constant.FieldKind.{FieldKind}
use Rattle.program.specs.declared.runtime_constant.FieldKind.TheVariants as kinds

abbrev pub u8 : ℕ → List ℕ
u8 n = to_be_bytes w64 n

-- a count of 16 bits, and the bytes
abbrev pub named_text : List ℕ → List ℕ
named_text name = u2 (length name) ++ name

-- ---- values

-- a count of 16 bits, and the units
abbrev pub units_text : List ℕ → List ℕ
units_text units = u2 (length units) ++ flat_map u2 units

-- a tag, and what it wants: nothing of null and of `System.out`
abbrev pub value_text : ImageValue → List ℕ
value_text values.Null = u1 0
value_text (values.Int n) = u1 1 ++ u4 (cast_unsigned w32 n)
value_text (values.Long n) = u1 2 ++ u8 (cast_unsigned w64 n)
value_text (values.Text units) = u1 3 ++ units_text units
value_text (values.Object class number) = u1 4 ++ (u4 class ++ u4 number)
value_text values.Out = u1 5

-- ---- elements of arrays

-- the bits of a number
abbrev pub int_bits : ImageValue → ℕ
int_bits (values.Int n) = cast_unsigned w32 n
int_bits _ = 0

abbrev pub long_bits : ImageValue → ℕ
long_bits (values.Long n) = cast_unsigned w64 n
long_bits _ = 0

-- an element of an array whose elements are held as a kind: the lowest bytes of its bits, or the value's text
-- (a boolean is held as a byte)
abbrev pub element_text : FieldKind → ImageValue → List ℕ
element_text kinds.Byte v = to_be_bytes w8 (int_bits v)
element_text kinds.Char v = to_be_bytes w16 (int_bits v)
element_text kinds.Short v = to_be_bytes w16 (int_bits v)
element_text kinds.Int v = u4 (int_bits v)
element_text kinds.Long v = u8 (long_bits v)
element_text _ v = value_text v

-- ---- objects

-- the form, the name of the class, and the slots
abbrev pub instance_text : List ℕ → List ImageValue → List ℕ
instance_text name slots = u1 0 ++ (named_text name ++ flat_map value_text slots)

-- of an array whose elements are held as a kind the number of its elements and these
abbrev pub array_text : List ℕ → FieldKind → List ImageValue → List ℕ
array_text name kind slots =
    u1 1 ++ (named_text name ++ (u4 (length slots) ++ flat_map (element_text kind) slots))

abbrev pub known_text : List ℕ → ClassId → List ImageValue → List ℕ
known_text name (classes.Array a) slots = array_text name (kind_of_elements a) slots
known_text name (classes.Given c) slots = instance_text name slots
known_text name (classes.BuiltIn b) slots = instance_text name slots

abbrev pub parts_text : List ℕ → ImageClass → List ImageValue → List ℕ
parts_text name (image.Known class) slots = known_text name class slots
parts_text name (image.UnknownArray dimensions class) slots = array_text name kinds.Reference slots

abbrev pub object_text : Family → ImageObject → List ℕ
object_text family object = parts_text (name_of_class family object.class) object.class object.slots

-- ---- regions

-- a number that version 2 alone spells: how many objects are kept, and the number of each
abbrev pub number_text : Version → ℕ → List ℕ
number_text versions.One n = []
number_text versions.Two n = u4 n

abbrev pub kept_text : Version → Family → KeptObject → List ℕ
kept_text version family kept = number_text version kept.number ++ object_text family kept.object

-- the count of the objects that were made, the statics, and the objects that are kept in the order of their numbers
abbrev pub region_text : Version → Family → ImageRegion → List ℕ
region_text version family region = u4 region.count
    ++ (flat_map value_text region.statics
    ++ (number_text version (length region.objects) ++ flat_map (kept_text version family) region.objects))

-- whether a class is initialized, and its region
abbrev pub flag_text : Version → Family → Option ImageRegion → List ℕ
flag_text version family None = u1 0
flag_text version family (Some region) = u1 1 ++ region_text version family region

-- ---- the image

-- a length of 32 bits, and the class file
abbrev pub file_text : ClassFile → List ℕ
file_text file = u4 (length (class_text file)) ++ class_text file

abbrev pub given_text : GivenClass → List ℕ
given_text given = file_text given.file

abbrev pub version_number : Version → ℕ
version_number versions.One = 1
version_number versions.Two = 2

-- all before the digest: `JPIM`, the version, the count of classes, the class files, and their flags and regions
abbrev pub body_text : Version → Family → List (Option ImageRegion) → List ℕ
body_text version family regions = u4 1246775629 ++ (u2 (version_number version) ++ (u4 (length family)
    ++ (flat_map given_text family ++ flat_map (flag_text version family) regions)))

abbrev pub with_digest : List ℕ → List ℕ
with_digest body = body ++ sha256 body

abbrev pub image_text : Version → Family → List (Option ImageRegion) → List ℕ
image_text version family regions = with_digest (body_text version family regions)
