-- The texts of a family's members by number.
use Rattle.std.specs.Prelude.{◌≡◌, ℕ, List, [], Some, length, slice_get}
use Rattle.classfile.specs.ClassFile.{ClassFile}
use Rattle.loading.specs.Families.{Family, file_in}
use Rattle.hierarchy.specs.steps.BuiltInTexts.{built_in_texts}
use Rattle.hierarchy.specs.steps.GrowingTexts.{KeepsNumbers}
use Rattle.hierarchy.specs.steps.PoolTexts.{AreTextNumbers}
use Rattle.hierarchy.specs.Texts.{AreDistinct}
use Rattle.hierarchy.specs.declared.member_table.MemberTable.{MemberTable}

-- The texts of the class files of a family have numbers.
pub record HavePools (family : Family) (texts by_class : List (List ℕ)) : Type 0 where
  pub distinct : AreDistinct texts
  pub first : slice_get texts 0 ≡ Some []
  pub built_in : KeepsNumbers built_in_texts texts
  pub count : length by_class ≡ length family
  pub pools : (c : ℕ) (f : ClassFile) (numbers : List ℕ) → file_in family c ≡ Some f
      → slice_get by_class c ≡ Some numbers → AreTextNumbers texts f numbers

-- the texts of the family's class files have numbers there
abbrev pub IsTableOf : Family → MemberTable → Type 0
IsTableOf family table = HavePools family table.texts table.pools.items
