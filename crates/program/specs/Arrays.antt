-- Classes of arrays by their components (JVMS 4.3.2, 4.4.1; 6.5, anewarray).
use Rattle.std.specs.Prelude.{◌≡◌, ◌≢◌, ℕ, ◌+◌, ◌≤◌, Bool, true, false, ◌&&◌, nat_le, List, length, Option, Some, None}
use Rattle.std.specs.Prelude.{slice_get, if◌then◌else◌}
use Rattle.classfile.specs.Grammar.{IsObjectName}
use Rattle.built_in.specs.ClassNames.{name_of_built_in}
use Rattle.built_in.specs.declared.class_id.BuiltIn.{BuiltIn}
use Rattle.built_in.specs.declared.class_id.ClassId.{ClassId}
use Rattle.built_in.specs.declared.class_id.ClassId.TheVariants as class
use Rattle.built_in.specs.declared.class_id.ArrayType.{ArrayType}
use Rattle.built_in.specs.declared.class_id.ElementType.TheVariants as element
use Rattle.loading.specs.ClassIds.{object_type, element_text}
use Rattle.loading.specs.Families.{Family, name_in}
use Rattle.program.specs.Tables.{Tables}

-- the type of arrays whose components are of a class
abbrev pub array_type : ClassId → ArrayType
array_type (class.Given c) = record { dimensions = 1; element = element.Given c }
array_type (class.BuiltIn b) = record { dimensions = 1; element = element.BuiltIn b }
array_type (class.Array a) = record { dimensions = a.dimensions + 1; element = a.element }

-- whether a Utf8 can hold so many `[` and the descriptor of the elements: it has at most 65,535 bytes (JVMS 4.4.7)
abbrev pub is_name : ℕ → Option (List ℕ) → Bool
is_name dimensions None = false
is_name dimensions (Some text) = nat_le (dimensions + length text) 65535

-- whether there is a class of a type: it has at most 255 dimensions, and its name is its descriptor
abbrev pub is_array_class : Family → ArrayType → Bool
is_array_class family a = nat_le a.dimensions 255 && is_name a.dimensions (element_text family a.element)

-- the class of arrays whose components are of a class
abbrev pub array_of : Family → ClassId → Option ArrayType
array_of family component =
    if is_array_class family (array_type component) then Some (array_type component) else None

-- ---- arrays of classes that are neither given nor built in

-- A class's name as descriptors have it (JVMS 4.3.2), which no given and no built-in class has.
pub record IsUnknownName (family : Family) (name : List ℕ) : Type 0 where
  pub spelled : IsObjectName name
  pub not_given : (c : ℕ) → name_in family c ≢ Some name
  pub not_built_in : (b : BuiltIn) → name_of_built_in b ≢ name

-- An array type whose elements are of such a class: its name is among the program's strings, and the type's descriptor
-- is one (JVMS 4.3.2) that a Utf8 can hold.
pub record IsUnknownArray (P : Tables) (a : ArrayType) : Type 0 where
  pub number : ℕ
  pub name : List ℕ
  pub element : a.element ≡ element.Unknown number
  pub named : slice_get P.strings number ≡ Some name
  pub unknown : IsUnknownName P.family name
  pub least : 1 ≤ a.dimensions
  pub most : a.dimensions ≤ 255
  pub short : is_name a.dimensions (Some (object_type name)) ≡ true
