-- The strings of a program (JVMS 5.1).
use Rattle.std.specs.Prelude.{◌≡◌, ℕ, ◌<◌, ◌^◌, List, [], ◌∷◌, ◌++◌, length}
use Rattle.std.specs.List.{All, Contains, flat_map}
use Rattle.classfile.specs.ClassFile.{ClassFile}
use Rattle.classfile.specs.Units.{IsModifiedUtf8}
use Rattle.classfile.specs.declared.constant.Constant.{Constant}
use Rattle.classfile.specs.declared.constant.Constant.TheVariants as constants
use Rattle.loading.specs.declared.given.GivenClass.{GivenClass}
use Rattle.loading.specs.Families.{Family}
use Rattle.loading.specs.Names.{text_at}

-- the text of a String
abbrev pub string_of : ClassFile → Constant → List (List ℕ)
string_of f (constants.String utf8) = text_at f utf8 ∷ []
string_of f _ = []

-- those of a class file, in the order of their indices
abbrev pub strings_of : ClassFile → List (List ℕ)
strings_of f = flat_map (string_of f) f.constants

-- those of all classes, in the order of the classes' numbers
abbrev pub all_strings : Family → List (List ℕ)
all_strings family = flat_map (λ (given : GivenClass). strings_of given.file) family

-- The texts of a list, each once, in the order in which they stand there first.
pub data AreFirsts : List (List ℕ) → List (List ℕ) → Type 0 where
  none : AreFirsts [] []
  again : {all texts : List (List ℕ)} {x : List ℕ} → AreFirsts all texts → Contains all x
      → AreFirsts (all ++ x ∷ []) texts
  first : {all texts : List (List ℕ)} {x : List ℕ} → AreFirsts all texts → ¬ Contains all x
      → AreFirsts (all ++ x ∷ []) (texts ++ x ∷ [])

-- ---- strings that come with an image

-- the spelling of fewer than 2^16 units (JVMS 4.4.7), of which as many as a class file or an image can hold
pub record IsText (text : List ℕ) : Type 0 where
  pub modified : IsModifiedUtf8 text
  pub few : length modified.units < 2 ^ 16

-- The strings of a family's class files, each once, and behind them others.
pub record AreStrings (family : Family) (strings : List (List ℕ)) : Type 0 where
  pub own : List (List ℕ)
  pub added : List (List ℕ)
  pub firsts : AreFirsts (all_strings family) own
  pub texts : All IsText added
  pub are : strings ≡ own ++ added
