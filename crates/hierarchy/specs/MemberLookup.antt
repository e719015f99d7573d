-- Members by name and descriptor (JVMS 5.4.3.2 to 5.4.3.4, 5.4.5 and 6.5).
use Rattle.std.specs.Prelude.{◌≡◌, ◌≢◌, ℕ, Bool, false, not, ◌&&◌, ◌||◌, Option, Some, None, slice_get, if◌then◌else◌}
use Rattle.std.specs.List.{position_from}
use Rattle.std.specs.Str.{bytes_eq}
use Rattle.classfile.specs.Flags.{has_flag}
use Rattle.classfile.specs.ClassFile.{ClassFile}
use Rattle.classfile.specs.declared.member.Member.{Member}
use Rattle.built_in.specs.declared.class_id.BuiltIn.{BuiltIn}
use Rattle.built_in.specs.Keys.{NameAndType}
use Rattle.built_in.specs.declared.method.BuiltInMethod.{BuiltInMethod}
use Rattle.hierarchy.specs.declared.member.Method.{Method}
use Rattle.hierarchy.specs.declared.member.Method.TheVariants as method
use Rattle.loading.specs.declared.given.Superclass.{Superclass}
use Rattle.loading.specs.declared.given.Superclass.TheVariants as super
use Rattle.loading.specs.Names.{text_at}
use Rattle.loading.specs.Families.{Family, file_in, superclass_in, is_interface_in, IsAncestor}
use Rattle.built_in.specs.Methods.{HasMember, key_of_member}

-- ---- the members that a class declares

abbrev pub is_named : ClassFile → NameAndType → Member → Bool
is_named f key m = bytes_eq (text_at f m.name) key.name && bytes_eq (text_at f m.descriptor) key.descriptor

abbrev pub field_of : NameAndType → Option ClassFile → Option ℕ
field_of key None = None
field_of key (Some f) = position_from (is_named f key) 0 f.fields

-- the place of the field of a name and descriptor among those that a class declares
abbrev pub field_in : Family → NameAndType → ℕ → Option ℕ
field_in family key c = field_of key (file_in family c)

abbrev pub method_of : NameAndType → Option ClassFile → Option ℕ
method_of key None = None
method_of key (Some f) = position_from (is_named f key) 0 f.methods

abbrev pub method_in : Family → NameAndType → ℕ → Option ℕ
method_in family key c = method_of key (file_in family c)

abbrev pub member_flags : Option Member → ℕ
member_flags None = 0
member_flags (Some m) = m.access_flags

abbrev pub flags_of : Option ClassFile → ℕ → ℕ
flags_of None k = 0
flags_of (Some f) k = member_flags (slice_get f.methods k)

-- the access flags of a method
abbrev pub flags_in : Family → ℕ → ℕ → ℕ
flags_in family c k = flags_of (file_in family c) k

abbrev pub is_private : ℕ → Bool
is_private flags = has_flag flags 2

abbrev pub is_static : ℕ → Bool
is_static flags = has_flag flags 8

abbrev pub is_abstract : ℕ → Bool
is_abstract flags = has_flag flags 1024

-- those of its methods that pass a test of their flags
abbrev pub keep_if : (ℕ → Bool) → (ℕ → ℕ) → Option ℕ → Option ℕ
keep_if test flags None = None
keep_if test flags (Some k) = if test (flags k) then Some k else None

abbrev pub method_with : (ℕ → Bool) → Family → NameAndType → ℕ → Option ℕ
method_with test family key c = keep_if test (flags_in family c) (method_in family key c)

abbrev pub key_of : ClassFile → Option Member → Option NameAndType
key_of f None = None
key_of f (Some m) = Some (record { name = text_at f m.name; descriptor = text_at f m.descriptor })

abbrev pub key_if : Option ClassFile → ℕ → Option NameAndType
key_if None k = None
key_if (Some f) k = key_of f (slice_get f.methods k)

-- the name and the descriptor of a method
abbrev pub key_in : Family → ℕ → ℕ → Option NameAndType
key_in family c k = key_if (file_in family c) k

-- ---- along superclasses

-- The first class, from one upwards, that has a method; at its end stand the members of the built-in classes. Where
-- there is no class of a number, nothing is found.
pub data UpClasses (family : Family) (own : ℕ → Option ℕ) (key : NameAndType) : Superclass → Option Method
    → Type 0 where
  here : {c k : ℕ} → own c ≡ Some k → UpClasses family own key (super.Given c) (Some (method.Given c k))
  up : {c : ℕ} {s : Superclass} {r : Option Method} → own c ≡ None → superclass_in family c ≡ Some s
      → UpClasses family own key s r
      → UpClasses family own key (super.Given c) r
  beyond : {c : ℕ} → own c ≡ None → superclass_in family c ≡ None → UpClasses family own key (super.Given c) None
  member : {class : BuiltIn} {m : BuiltInMethod} → HasMember class m → key_of_member m ≡ key
      → UpClasses family own key (super.BuiltIn class) (Some (method.BuiltIn m))
  no_member : {class : BuiltIn} → ((m : BuiltInMethod) → HasMember class m → key_of_member m ≢ key)
      → UpClasses family own key (super.BuiltIn class) None

-- ---- superinterface methods (JVMS 5.4.3.3)

-- neither private nor static
abbrev pub is_inherited : ℕ → Bool
is_inherited flags = not (is_private flags || is_static flags)

-- a method of an interface, as superinterface methods are looked up
abbrev pub interface_method_in : Family → NameAndType → ℕ → Option ℕ
interface_method_in family key i = if is_interface_in family i then method_with is_inherited family key i else None

-- method k of i is a superinterface method of c
abbrev pub IsCandidate : Family → NameAndType → ℕ → ℕ → ℕ → Type 0
IsCandidate family key c i k = IsAncestor family c i × (interface_method_in family key i ≡ Some k)

-- no other one's interface is below its own
abbrev pub IsMaximallySpecific : Family → NameAndType → ℕ → ℕ → ℕ → Type 0
IsMaximallySpecific family key c i k = IsCandidate family key c i k
    × ((j l : ℕ) → IsCandidate family key c j l → ¬ IsAncestor family j i)

-- one that has code, as far as its flags say
abbrev pub IsDefault : Family → NameAndType → ℕ → ℕ → ℕ → Type 0
IsDefault family key c i k = IsMaximallySpecific family key c i k × (is_abstract (flags_in family i k) ≡ false)

-- the only one of these
abbrev pub IsTheDefault : Family → NameAndType → ℕ → ℕ → ℕ → Type 0
IsTheDefault family key c i k = IsDefault family key c i k
    × ((j l : ℕ) → IsDefault family key c j l → (j ≡ i) × (l ≡ k))

abbrev pub HasNoDefault : Family → NameAndType → ℕ → Type 0
HasNoDefault family key c = (i k : ℕ) → ¬ IsTheDefault family key c i k
