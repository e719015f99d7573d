-- Array classes by their components.
use Rattle.std.specs.Prelude.{Bool, true, false, nat_lt, if◌then◌else◌}
use Rattle.built_in.specs.declared.class_id.ClassId.{ClassId}
use Rattle.built_in.specs.declared.class_id.ClassId.TheVariants.{Given, BuiltIn, Array}
use Rattle.built_in.specs.declared.class_id.ElementType.{ElementType}
use Rattle.built_in.specs.declared.class_id.ElementType.TheVariants as element

-- whether elements of a type are references
abbrev pub is_reference : ElementType → Bool
is_reference (element.Given c) = true
is_reference (element.BuiltIn c) = true
is_reference (element.Unknown s) = true
is_reference element.Boolean = false
is_reference element.Byte = false
is_reference element.Char = false
is_reference element.Short = false
is_reference element.Int = false
is_reference element.Long = false
is_reference element.Float = false
is_reference element.Double = false

-- whether it is the class of arrays whose components are references
abbrev pub has_references : ClassId → Bool
has_references (Given c) = false
has_references (BuiltIn c) = false
has_references (Array a) = if nat_lt 1 a.dimensions then true else is_reference a.element
