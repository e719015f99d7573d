-- Fields: how their values are stored, and which of them are static.
use Rattle.std.specs.Prelude.{ℕ, ℤ, pos, ◌%◌, ◌^◌, Bool, true, false, ◌&&◌, List, Option, Some, None}
use Rattle.std.specs.Prelude.{codes, take, if◌then◌else◌}
use Rattle.std.specs.Int.{w8, w16, w32, cast_signed, cast_unsigned}
use Rattle.std.specs.List.{count_by, filter}
use Rattle.std.specs.Str.{bytes_eq}
use Rattle.vm_state.specs.declared.value.Value.{Value}
use Rattle.vm_state.specs.declared.value.Value.TheVariants as values
use Rattle.classfile.specs.Flags.{has_flag}
use Rattle.classfile.specs.ClassFile.{ClassFile}
use Rattle.classfile.specs.declared.member.Member.{Member}
use Rattle.program.specs.declared.runtime_constant.FieldKind.{FieldKind}
use Rattle.program.specs.declared.runtime_constant.FieldKind.TheVariants as kinds
use Rattle.loading.specs.Names.{text_at}

-- by its descriptor (JVMS 4.3.2)
abbrev pub field_kind : List ℕ → FieldKind
field_kind descriptor =
    if bytes_eq descriptor (codes "Z") then kinds.Boolean else
    (if bytes_eq descriptor (codes "B") then kinds.Byte else
    (if bytes_eq descriptor (codes "C") then kinds.Char else
    (if bytes_eq descriptor (codes "S") then kinds.Short else
    (if bytes_eq descriptor (codes "I") then kinds.Int else
    (if bytes_eq descriptor (codes "J") then kinds.Long else
    (if bytes_eq descriptor (codes "F") then kinds.Float else
    (if bytes_eq descriptor (codes "D") then kinds.Double else kinds.Reference)))))))

abbrev pub has_value : FieldKind → Bool
has_value kinds.Float = false
has_value kinds.Double = false
has_value _ = true

-- what narrowing an int to a type gives (JVMS 2.11.4): its low bits, with a sign but for char; of a boolean one bit
abbrev pub narrowed : FieldKind → ℤ → ℤ
narrowed kinds.Boolean n = pos (cast_unsigned w32 n % 2)
narrowed kinds.Byte n = cast_signed w8 (cast_unsigned w32 n % 2 ^ 8)
narrowed kinds.Char n = pos (cast_unsigned w32 n % 2 ^ 16)
narrowed kinds.Short n = cast_signed w16 (cast_unsigned w32 n % 2 ^ 16)
narrowed _ n = n

-- a value as a field of a type holds it
abbrev pub narrowed_value : FieldKind → Value → Value
narrowed_value kind (values.Int n) = values.Int (narrowed kind n)
narrowed_value kind v = v

abbrev pub is_static_field : ClassFile → Member → Bool
is_static_field f m = has_flag m.access_flags 8 && has_value (field_kind (text_at f m.descriptor))

-- the static fields that have values, in the file's order
abbrev pub statics_of : ClassFile → List Member
statics_of f = filter (is_static_field f) f.fields

-- the number of a static field: how many stand before it
abbrev pub static_number_of : ClassFile → ℕ → ℕ
static_number_of f k = count_by (is_static_field f) (take k f.fields)

abbrev pub final_of : Option Member → Bool
final_of None = false
final_of (Some m) = has_flag m.access_flags 16

abbrev pub static_of : Option Member → Bool
static_of None = false
static_of (Some m) = has_flag m.access_flags 8
