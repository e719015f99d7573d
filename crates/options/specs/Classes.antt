-- Which given classes some patterns are about.
use Rattle.std.specs.Prelude.{◌≡◌, ℕ, ◌↔◌, Bool, List, Some, IsTrue}
use Rattle.std.specs.List.{Contains}
use Rattle.loading.specs.Families.{Family, name_in, superclasses_in}
use Rattle.initializer_analysis.specs.Forced.{has_class}
use Rattle.options.specs.Patterns.{dotted, spelled, IsIn}

-- the class is there, and its name with dots is this one, or begins with it and a dot
pub record IsClassIn (family : Family) (outer : List ℕ) (class : ℕ) : Type 0 where
  pub name : List ℕ
  pub named : name_in family class ≡ Some name
  pub inside : IsIn outer (dotted name)

-- the pattern matches the name of the class
abbrev pub MatchesClass : Family → List ℕ → ℕ → Type 0
MatchesClass family pattern class = IsClassIn family (spelled pattern) class

-- one of the patterns does
pub record IsMatched (family : Family) (patterns : List (List ℕ)) (class : ℕ) : Type 0 where
  pub pattern : List ℕ
  pub listed : Contains patterns pattern
  pub matches : MatchesClass family pattern class

-- A class stands on the chain of superclasses of another one: it is that class, or above it (JVMS 4.1, super_class).
pub data IsOnChain (family : Family) (above : ℕ) : ℕ → Type 0 where
  itself : IsOnChain family above above
  up : {class parent : ℕ} → Contains (superclasses_in family class) parent → IsOnChain family above parent
      → IsOnChain family above class

-- one of these classes stands on the chain of the class
pub record IsAtOrBelow (family : Family) (P : ℕ → Type 0) (class : ℕ) : Type 0 where
  pub above : ℕ
  pub on : IsOnChain family above class
  pub one : P above

-- the class stands on the chain of one of these
pub record IsAtOrAbove (family : Family) (P : ℕ → Type 0) (class : ℕ) : Type 0 where
  pub below : ℕ
  pub on : IsOnChain family class below
  pub one : P below

-- what a list for run time forces: each class that a pattern matches, and those below it
abbrev pub IsForced : Family → List (List ℕ) → ℕ → Type 0
IsForced family patterns class = IsAtOrBelow family (IsMatched family patterns) class

-- what a list for build time demands: each class that a pattern matches, and those above it
abbrev pub IsDemanded : Family → List (List ℕ) → ℕ → Type 0
IsDemanded family patterns class = IsAtOrAbove family (IsMatched family patterns) class

-- a set has the classes of this kind and no others
abbrev pub AreClasses : List Bool → (ℕ → Type 0) → Type 0
AreClasses flags P = (class : ℕ) → IsTrue (has_class flags class) ↔ P class
