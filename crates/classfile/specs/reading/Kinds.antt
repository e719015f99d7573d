-- Which numbers make up the body of a constant (JVMS 4.4).
use Rattle.std.specs.Prelude.{Bool, true, false}
use Rattle.classfile.specs.declared.constant.Kind.{Kind}
use Rattle.classfile.specs.declared.constant.Kind.TheVariants as kinds

-- one index, or the 32 bits of an int or a float
abbrev pub is_of_one : Kind → Bool
is_of_one kinds.Integer = true
is_of_one kinds.Float = true
is_of_one kinds.Class = true
is_of_one kinds.String = true
is_of_one kinds.MethodType = true
is_of_one _ = false

-- two halves of 32 bits
abbrev pub is_of_halves : Kind → Bool
is_of_halves kinds.Long = true
is_of_halves kinds.Double = true
is_of_halves _ = false

-- two numbers of 16 bits
abbrev pub is_of_indices : Kind → Bool
is_of_indices kinds.Fieldref = true
is_of_indices kinds.Methodref = true
is_of_indices kinds.InterfaceMethodref = true
is_of_indices kinds.NameAndType = true
is_of_indices kinds.InvokeDynamic = true
is_of_indices _ = false
