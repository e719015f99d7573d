-- The names that a class file gives (JVMS 4.1, 4.2.1).
use Rattle.std.specs.Prelude.{◌≡◌, ℕ, Bool, List, [], Option, Some, None, map, unwrap_or, ◌==◌, if◌then◌else◌}
use Rattle.std.specs.Cmp.Lexicographic.{slice_cmp}
use Rattle.std.specs.Ordering.{nat_cmp}
use Rattle.std.specs.declared.cmp.Ordering.TheVariants.{Less}
use Rattle.classfile.specs.Flags.{has_flag}
use Rattle.classfile.specs.Lookup.{class_name_of, utf8_of}
use Rattle.classfile.specs.ClassFile.{ClassFile}

-- the bytes of the name of the Class at an index
abbrev pub class_name_at : ClassFile → ℕ → List ℕ
class_name_at f index = unwrap_or (class_name_of f.constants index) []

-- the bytes of the Utf8 at an index
abbrev pub text_at : ClassFile → ℕ → List ℕ
text_at f index = unwrap_or (utf8_of f.constants index) []

-- the class's own name
abbrev pub name_of : ClassFile → List ℕ
name_of f = class_name_at f f.this_class

-- the name of its superclass
abbrev pub superclass_of : ClassFile → Option (List ℕ)
superclass_of f = if f.super_class == 0 then None else Some (class_name_at f f.super_class)

-- the names of its direct superinterfaces, in the file's order
abbrev pub interfaces_of : ClassFile → List (List ℕ)
interfaces_of f = map (class_name_at f) f.interfaces

-- INTERFACE
abbrev pub is_interface : ClassFile → Bool
is_interface f = has_flag f.access_flags 512

-- names are ordered by their bytes
abbrev pub Precedes : List ℕ → List ℕ → Type 0
Precedes a b = slice_cmp nat_cmp a b ≡ Less
