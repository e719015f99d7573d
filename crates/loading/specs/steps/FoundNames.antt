-- What names of superinterfaces were found to stand for.
use Rattle.std.specs.Prelude.{◌≡◌, ℕ, ◌⊎◌, true, List, map, Option, Some, None, slice_index_or}
use Rattle.std.specs.List.{All}
use Rattle.classfile.specs.ClassFile.{ClassFile}
use Rattle.classfile.specs.declared.constant.Constant.{Constant}
use Rattle.classfile.specs.declared.constant.Constant.TheVariants as constants
use Rattle.loading.specs.declared.given.Superclass.{Superclass}
use Rattle.loading.specs.Names.{text_at}
use Rattle.loading.specs.Files.{IsGivenClass, IsBuiltIn}
use Rattle.loading.specs.steps.Linking.{name_at, is_interface_at, name_among}

-- the index of the name of a Class, or 0
abbrev pub name_index : Constant → ℕ
name_index (constants.Class name) = name
name_index _ = 0

-- By the index of a name in a class file's constants: a class that stands there has this name.
abbrev pub AreFound : List ClassFile → ClassFile → List (Option Superclass) → Type 0
AreFound files f found = (index : ℕ) (class : Superclass) → slice_index_or found index None ≡ Some class
    → name_among files class ≡ Some (text_at f index)

-- what has its name is no given interface
abbrev pub IsNoInterface : List ClassFile → Superclass → Type 0
IsNoInterface files class = (name : List ℕ) → name_among files class ≡ Some name
    → IsGivenClass files name ⊎ IsBuiltIn name

-- the numbers of classes that are all given interfaces
pub record AreTheirNumbers (files : List ClassFile) (classes : List Superclass) (numbers : List ℕ) : Type 0 where
  pub names : map (name_among files) classes ≡ map (name_at files) numbers
  pub each : All (λ i. is_interface_at files i ≡ true) numbers
