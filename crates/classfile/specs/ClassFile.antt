-- What a class file holds (JVMS 4.1).
use Rattle.std.specs.Prelude.{ℕ, Bool, not, ◌||◌, List}
use Rattle.std.specs.List.{list_any}
use Rattle.classfile.specs.declared.constant.Constant.{Constant}
use Rattle.classfile.specs.declared.attribute.Attribute.{Attribute}
use Rattle.classfile.specs.declared.member.Member.{Member}
use Rattle.classfile.specs.Flags.{has_flag}

-- The parts of a class file. The constants stand under their indices: at 0 an unusable one.
pub record ClassFile : Type 0 where
  pub constants : List Constant
  pub access_flags : ℕ
  pub this_class : ℕ
  pub super_class : ℕ
  pub interfaces : List ℕ
  pub fields : List Member
  pub methods : List Member
  pub attributes : List Attribute

-- neither ABSTRACT nor STATIC (JVMS 4.6)
abbrev pub is_default_method : Member → Bool
is_default_method m = not (has_flag m.access_flags 1024 || has_flag m.access_flags 8)

-- whether an interface declares such a method
abbrev pub declares_default : ClassFile → Bool
declares_default f = list_any is_default_method f.methods
