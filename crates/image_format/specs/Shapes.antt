-- The shape of a region in an image: each static suits its field, and each object is an instance of a class that has
-- instances, with just the slots that such an instance has, or an array, each slot suiting its field or the elements'
-- type. What is counted fits the number that counts it.
use Rattle.std.specs.Prelude.{◌≡◌, ℕ, ◌+◌, ℤ, pos, negsuc, ◌<◌, ◌≤◌, ◌^◌, Bool, true, false, ◌&&◌, List, [], ◌∷◌}
use Rattle.std.specs.Prelude.{length, is_some, FitsSigned, int_le}
use Rattle.std.specs.List.{All, AllZip}
use Rattle.std.specs.Int.{w32, w64}
use Rattle.classfile.specs.Units.{IsModifiedUtf8}
use Rattle.built_in.specs.declared.class_id.ArrayType.{ArrayType}
use Rattle.built_in.specs.declared.class_id.BuiltIn.{BuiltIn}
use Rattle.built_in.specs.declared.class_id.BuiltIn.TheVariants as builtins
use Rattle.built_in.specs.declared.class_id.ClassId.{ClassId}
use Rattle.built_in.specs.declared.class_id.ClassId.TheVariants as classes
use Rattle.loading.specs.ClassIds.{element_text as descriptor_of}
use Rattle.loading.specs.Families.{Family}
use Rattle.program.specs.Arrays.{IsUnknownName}
use Rattle.program.specs.declared.runtime_constant.FieldKind.{FieldKind}
use Rattle.program.specs.declared.runtime_constant.FieldKind.TheVariants as kinds
use Rattle.program.specs.InstanceFields.{is_instantiable_in, slots_of, static_kinds}
use Rattle.image_format.specs.Values.{ImageValue}
use Rattle.image_format.specs.Values as values
use Rattle.image_format.specs.Classes.{ImageClass}
use Rattle.image_format.specs.Classes as image
use Rattle.image_format.specs.Regions.{ImageObject, ImageRegion, KeptObject}
use Rattle.image_format.specs.declared.version.Version.{Version}
use Rattle.image_format.specs.declared.version.Version.TheVariants as versions
use Rattle.image_format.specs.Names.{name_of_class}
use Rattle.image_format.specs.Elements.{kind_of_elements}

-- ---- values

-- the least and the greatest int of a type that is held as ints
abbrev pub least : FieldKind → ℤ
least kinds.Boolean = pos 0
least kinds.Byte = negsuc 127
least kinds.Char = pos 0
least kinds.Short = negsuc 32767
least _ = negsuc 2147483647

abbrev pub greatest : FieldKind → ℤ
greatest kinds.Boolean = pos 1
greatest kinds.Byte = pos 127
greatest kinds.Char = pos 65535
greatest kinds.Short = pos 32767
greatest _ = pos 2147483647

abbrev pub is_in_range : FieldKind → ℤ → Bool
is_in_range kind n = int_le (least kind) n && int_le n (greatest kind)

abbrev pub IsIntOf : FieldKind → ImageValue → Type 0
IsIntOf kind (values.Int n) = FitsSigned w32 n × (is_in_range kind n ≡ true)
IsIntOf kind _ = ⊥

abbrev pub IsLong : ImageValue → Type 0
IsLong (values.Long n) = FitsSigned w64 n
IsLong _ = ⊥

-- a count of 16 bits, of units of 16 bits
pub record AreUnits (units : List ℕ) : Type 0 where
  pub count : length units < 2 ^ 16
  pub each : All (λ unit. unit < 2 ^ 16) units

abbrev pub IsReference : ImageValue → Type 0
IsReference values.Null = Unit {0}
IsReference (values.Text units) = AreUnits units
IsReference (values.Object class number) = (class < 2 ^ 32) × (number < 2 ^ 32)
IsReference values.Out = Unit {0}
IsReference _ = ⊥

-- An int within the type's range for boolean, byte, char, short and int; a long for long; null, a string, an object's
-- name or `System.out` for references. Of float and double there is none.
abbrev pub Suits : FieldKind → ImageValue → Type 0
Suits kinds.Boolean v = IsIntOf kinds.Boolean v
Suits kinds.Byte v = IsIntOf kinds.Byte v
Suits kinds.Char v = IsIntOf kinds.Char v
Suits kinds.Short v = IsIntOf kinds.Short v
Suits kinds.Int v = IsIntOf kinds.Int v
Suits kinds.Long v = IsLong v
Suits kinds.Float v = ⊥
Suits kinds.Double v = ⊥
Suits kinds.Reference v = IsReference v

-- ---- classes of objects

-- the built-in classes whose instances are objects: Enum is abstract, a string and `System.out` are values of their
-- own, and System has none
abbrev pub has_objects : BuiltIn → Bool
has_objects builtins.Enum = false
has_objects builtins.String = false
has_objects builtins.System = false
has_objects builtins.PrintStream = false
has_objects b = true

-- whether there are values of a kind
abbrev pub has_values : FieldKind → Bool
has_values kinds.Float = false
has_values kinds.Double = false
has_values _ = true

-- the array type has a name, and its elements have values
pub record IsArrayType (family : Family) (a : ArrayType) : Type 0 where
  pub some : 1 ≤ a.dimensions
  pub few : a.dimensions ≤ 255
  pub element : is_some (descriptor_of family a.element) ≡ true
  pub elements : has_values (kind_of_elements a) ≡ true

-- so many dimensions of a class that is neither given nor built in, of this name
pub record IsArrayOfUnknown (family : Family) (dimensions : ℕ) (name : List ℕ) : Type 0 where
  pub least : 1 ≤ dimensions
  pub most : dimensions ≤ 255
  pub unknown : IsUnknownName family name
  pub text : IsModifiedUtf8 name

abbrev pub KnownHasObjects : Family → ClassId → Type 0
KnownHasObjects family (classes.Given c) = is_instantiable_in family c ≡ true
KnownHasObjects family (classes.BuiltIn b) = has_objects b ≡ true
KnownHasObjects family (classes.Array a) = IsArrayType family a

-- a class of which there can be an object
abbrev pub HasObjects : Family → ImageClass → Type 0
HasObjects family (image.Known class) = KnownHasObjects family class
HasObjects family (image.UnknownArray dimensions name) = IsArrayOfUnknown family dimensions name

-- ---- objects

-- at most 2147483647 elements
abbrev pub AreElements : FieldKind → List ImageValue → Type 0
AreElements kind vs = (length vs < 2 ^ 31) × All (Suits kind) vs

abbrev pub AreKnownSlots : Family → ClassId → List ImageValue → Type 0
AreKnownSlots family (classes.Array a) vs = AreElements (kind_of_elements a) vs
AreKnownSlots family (classes.Given c) vs = AllZip Suits (slots_of family c) vs
AreKnownSlots family (classes.BuiltIn b) vs = vs ≡ []

-- What an object of a class holds: a value for each instance field of the class and its superclasses, those of the
-- uppermost first; the elements of an array. Objects of built-in classes hold nothing.
abbrev pub AreSlots : Family → ImageClass → List ImageValue → Type 0
AreSlots family (image.Known class) vs = AreKnownSlots family class vs
AreSlots family (image.UnknownArray dimensions name) vs = AreElements kinds.Reference vs

pub record ObjectHasShape (family : Family) (object : ImageObject) : Type 0 where
  pub class : HasObjects family object.class
  pub name : length (name_of_class family object.class) < 2 ^ 16
  pub slots : AreSlots family object.class object.slots

-- ---- regions

-- The number of an object, where those before it are below this one: in version 1 each number has its object; in
-- version 2 some of those below the count have one.
abbrev pub IsNumber : Version → ℕ → ℕ → ℕ → Type 0
IsNumber versions.One count least n = n ≡ least
IsNumber versions.Two count least n = (least ≤ n) × (n < count)

-- the numbers of objects from one on, strictly ascending
abbrev pub AreNumbered : Version → ℕ → ℕ → List KeptObject → Type 0
AreNumbered version count least [] = Unit {0}
AreNumbered version count least (kept ∷ more) =
    IsNumber version count least kept.number × AreNumbered version count (kept.number + 1) more

-- how many objects there are: in version 1 as many as were made
abbrev pub AreSoMany : Version → ℕ → ℕ → Type 0
AreSoMany versions.One count many = many ≡ count
AreSoMany versions.Two count many = Unit {0}

pub record HasShape (version : Version) (family : Family) (c : ℕ) (region : ImageRegion) : Type 0 where
  pub count : region.count < 2 ^ 32
  pub statics : AllZip Suits (static_kinds family c) region.statics
  pub many : AreSoMany version region.count (length region.objects)
  pub numbers : AreNumbered version region.count 0 region.objects
  pub objects : All (λ (kept : KeptObject). ObjectHasShape family kept.object) region.objects
