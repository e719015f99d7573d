-- Fields of instances, and the slots of objects that hold their values (JVMS 2.7, 4.5).
use Rattle.std.specs.Prelude.{ℕ, ◌+◌, Bool, true, false, not, ◌&&◌, List, [], ◌∷◌, ◌++◌, length, map, reverse, take}
use Rattle.std.specs.Prelude.{Option, Some, None, slice_get, if◌then◌else◌}
use Rattle.std.specs.List.{count_by, filter, flat_map}
use Rattle.classfile.specs.Flags.{has_flag}
use Rattle.classfile.specs.ClassFile.{ClassFile}
use Rattle.classfile.specs.declared.member.Member.{Member}
use Rattle.built_in.specs.declared.class_id.BuiltIn.{BuiltIn}
use Rattle.built_in.specs.declared.class_id.BuiltIn.TheVariants as builtins
use Rattle.loading.specs.declared.given.Superclass.{Superclass}
use Rattle.loading.specs.declared.given.Superclass.TheVariants as super
use Rattle.loading.specs.Families.{Family, file_in, passes, superclass_in}
use Rattle.loading.specs.Names.{text_at, is_interface}
use Rattle.hierarchy.specs.Initialization.{given_superclasses}
use Rattle.program.specs.declared.runtime_constant.FieldKind.{FieldKind}
use Rattle.program.specs.declared.runtime_constant.FieldKind.TheVariants as kinds
use Rattle.program.specs.Fields.{field_kind, has_value, statics_of}

-- whether a class has instances: it is neither an interface nor abstract (JVMS 4.1)
abbrev pub has_instances : ClassFile → Bool
has_instances f = not (is_interface f) && not (has_flag f.access_flags 1024)

abbrev pub is_instantiable_in : Family → ℕ → Bool
is_instantiable_in family c = passes has_instances (file_in family c)

abbrev pub kind_of : ClassFile → Member → FieldKind
kind_of f m = field_kind (text_at f m.descriptor)

-- a field of instances that has a value: it is neither static nor of type float or double
abbrev pub is_instance_field : ClassFile → Member → Bool
is_instance_field f m = not (has_flag m.access_flags 8) && has_value (kind_of f m)

-- the kinds of these fields of a class, in the file's order
abbrev pub own_kinds : ClassFile → List FieldKind
own_kinds f = map (kind_of f) (filter (is_instance_field f) f.fields)

abbrev pub own_kinds_if : Option ClassFile → List FieldKind
own_kinds_if None = []
own_kinds_if (Some f) = own_kinds f

abbrev pub is_enum : BuiltIn → Bool
is_enum builtins.Enum = true
is_enum _ = false

-- the slots that objects have of a built-in superclass: of Enum its name and its ordinal
abbrev pub built_in_kinds : Option Superclass → List FieldKind
built_in_kinds (Some (super.BuiltIn class)) = if is_enum class then kinds.Reference ∷ kinds.Int ∷ [] else []
built_in_kinds _ = []

-- the slots that objects of a class have beside those of its given superclass
abbrev pub added_slots : Family → ℕ → List FieldKind
added_slots family c = built_in_kinds (superclass_in family c) ++ own_kinds_if (file_in family c)

-- the slots of an object of a class, by their kinds: those of the uppermost superclass stand first
abbrev pub slots_of : Family → ℕ → List FieldKind
slots_of family c = flat_map (added_slots family) (reverse (c ∷ given_superclasses family c))

-- those that stand before the class's own fields
abbrev pub slots_before : Family → ℕ → List FieldKind
slots_before family c =
    flat_map (added_slots family) (reverse (given_superclasses family c)) ++ built_in_kinds (superclass_in family c)

abbrev pub slot_after : ℕ → ClassFile → ℕ → Option Member → ℕ
slot_after before f k None = 0
slot_after before f k (Some m) = before + count_by (is_instance_field f) (take k f.fields)

abbrev pub slot_in : ℕ → Option ClassFile → ℕ → ℕ
slot_in before None k = 0
slot_in before (Some f) k = slot_after before f k (slice_get f.fields k)

-- the slot of a class's field in objects of the class and of those below it: how many stand before it; of a field that
-- has no value it says nothing
abbrev pub slot_of : Family → ℕ → ℕ → ℕ
slot_of family c k = slot_in (length (slots_before family c)) (file_in family c) k

-- ---- static fields

abbrev pub static_kinds_if : Option ClassFile → List FieldKind
static_kinds_if None = []
static_kinds_if (Some f) = map (kind_of f) (statics_of f)

-- the kinds of the static fields of a class, in the file's order; those of type float and double are left out
abbrev pub static_kinds : Family → ℕ → List FieldKind
static_kinds family c = static_kinds_if (file_in family c)
