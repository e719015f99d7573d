-- What members are called, as the constant pools of classes say it (JVMS 4.4.6, 4.4.7, 4.6).
use Rattle.std.specs.Prelude.{ℕ, List, [], Option, Some, None}
use Rattle.classfile.specs.ClassFile.{ClassFile}
use Rattle.built_in.specs.Keys.{NameAndType}
use Rattle.loading.specs.Names.{text_at}
use Rattle.loading.specs.Families.{Family, file_in}
use Rattle.hierarchy.specs.declared.member_name.MemberName.{MemberName}

abbrev pub text_if : Option ClassFile → ℕ → List ℕ
text_if None index = []
text_if (Some f) index = text_at f index

-- the text at an index of a class's constant pool, or no bytes
abbrev pub text_in : Family → ℕ → ℕ → List ℕ
text_in family c index = text_if (file_in family c) index

-- the name and the descriptor that are meant
abbrev pub named_in : Family → MemberName → NameAndType
named_in family m = record { name = text_in family m.class m.name; descriptor = text_in family m.class m.descriptor }
