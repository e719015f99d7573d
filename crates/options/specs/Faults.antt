-- What is wrong with patterns, over the given classes.
use Rattle.std.specs.Prelude.{◌≡◌, ℕ, ◌<◌, Bool, List, Some, IsTrue, take, slice_get, string_bytes}
use Rattle.std.specs.Global.{Global}
use Rattle.std.specs.List.{All}
use Rattle.std.specs.declared.string.String.{String}
use Rattle.classfile.specs.Units.{units_text}
use Rattle.loading.specs.Families.{Family, name_in}
use Rattle.initializer_analysis.specs.Forced.{has_class}
use Rattle.options.specs.Classes.{MatchesClass, IsDemanded}
use Rattle.options.specs.declared.fault.OptionFault.{OptionFault}
use Rattle.options.specs.declared.fault.OptionFault.TheVariants.{Unknown, Both}

-- ---- a pattern that matches no class

abbrev pub IsKnown : Family → List ℕ → Type 0
IsKnown family pattern = (class : ℕ) × MatchesClass family pattern class

-- this pattern matches none, and is the first of the list that does not
pub record IsFirstUnknown (family : Family) (patterns : List (List ℕ)) (pattern : List ℕ) : Type 0 where
  pub place : ℕ
  pub here : slice_get patterns place ≡ Some pattern
  pub unknown : ¬ IsKnown family pattern
  pub before : All (IsKnown family) (take place patterns)

-- why a list has no classes, but for want of memory
pub data PatternsFail (family : Family) (patterns : List (List ℕ)) : OptionFault → Type 0 where
  unknown : {text : String Global} → IsFirstUnknown family patterns (string_bytes text)
      → PatternsFail family patterns (Unknown text)

-- ---- a class of two kinds

-- of this kind, and one of the classes that are forced
abbrev pub IsBoth : (ℕ → Type 0) → List Bool → ℕ → Type 0
IsBoth P forced class = P class × IsTrue (has_class forced class)

abbrev pub AreApart : (ℕ → Type 0) → List Bool → Type 0
AreApart P forced = (class : ℕ) → ¬ IsBoth P forced class

pub record IsLeastBoth (P : ℕ → Type 0) (forced : List Bool) (class : ℕ) : Type 0 where
  pub here : IsBoth P forced class
  pub before : (other : ℕ) → other < class → ¬ IsBoth P forced other

-- the least class that is both, by its name
pub data IsOfBoth (family : Family) (P : ℕ → Type 0) (forced : List Bool) : OptionFault → Type 0 where
  both : {class : ℕ} {name : List ℕ} → IsLeastBoth P forced class → name_in family class ≡ Some (units_text name)
      → IsOfBoth family P forced (Both name)

-- why a list demands no classes: a pattern matches none, and else a class is forced
pub data DemandFails (family : Family) (patterns : List (List ℕ)) (forced : List Bool) : OptionFault → Type 0 where
  unmatched : {fault : OptionFault} → PatternsFail family patterns fault → DemandFails family patterns forced fault
  overlapping : {fault : OptionFault} → All (IsKnown family) patterns
      → IsOfBoth family (IsDemanded family patterns) forced fault → DemandFails family patterns forced fault
