-- As which kind the elements of an array are held.
use Rattle.std.specs.Prelude.{nat_lt, if◌then◌else◌}
use Rattle.built_in.specs.declared.class_id.ArrayType.{ArrayType}
use Rattle.built_in.specs.declared.class_id.ElementType.{ElementType}
use Rattle.built_in.specs.declared.class_id.ElementType.TheVariants as elements
use Rattle.program.specs.declared.runtime_constant.FieldKind.{FieldKind}
use Rattle.program.specs.declared.runtime_constant.FieldKind.TheVariants as kinds

-- a boolean as a byte
abbrev pub kind_of_type : ElementType → FieldKind
kind_of_type elements.Boolean = kinds.Byte
kind_of_type elements.Byte = kinds.Byte
kind_of_type elements.Char = kinds.Char
kind_of_type elements.Short = kinds.Short
kind_of_type elements.Int = kinds.Int
kind_of_type elements.Long = kinds.Long
kind_of_type elements.Float = kinds.Float
kind_of_type elements.Double = kinds.Double
kind_of_type _ = kinds.Reference

-- elements that are arrays are references
abbrev pub kind_of_elements : ArrayType → FieldKind
kind_of_elements a = if nat_lt 1 a.dimensions then kinds.Reference else kind_of_type a.element
