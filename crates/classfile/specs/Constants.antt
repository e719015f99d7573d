-- Kinds of constants, and which of them take two indices.
use Rattle.std.specs.Prelude.{ℕ, Bool, true, false}
use Rattle.std.specs.Prelude.{Option, Some, None, ◌==◌, if◌then◌else◌}
use Rattle.classfile.specs.declared.constant.Constant.{Constant}
use Rattle.classfile.specs.declared.constant.Constant.TheVariants as constants
use Rattle.classfile.specs.declared.constant.Kind.{Kind}
use Rattle.classfile.specs.declared.constant.Kind.TheVariants as kinds

abbrev pub is_wide : Constant → Bool
is_wide (constants.Long high low) = true
is_wide (constants.Double high low) = true
is_wide _ = false

unfoldable pub kind_of_tag : ℕ → Option Kind
kind_of_tag tag =
    if tag == 1 then Some kinds.Utf8 else
    (if tag == 3 then Some kinds.Integer else
    (if tag == 4 then Some kinds.Float else
    (if tag == 5 then Some kinds.Long else
    (if tag == 6 then Some kinds.Double else
    (if tag == 7 then Some kinds.Class else
    (if tag == 8 then Some kinds.String else
    (if tag == 9 then Some kinds.Fieldref else
    (if tag == 10 then Some kinds.Methodref else
    (if tag == 11 then Some kinds.InterfaceMethodref else
    (if tag == 12 then Some kinds.NameAndType else
    (if tag == 15 then Some kinds.MethodHandle else
    (if tag == 16 then Some kinds.MethodType else
    (if tag == 18 then Some kinds.InvokeDynamic else None)))))))))))))
