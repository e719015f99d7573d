-- Strings in regions: each is one of the program's.
use Rattle.std.specs.Prelude.{◌≡◌, ℕ, ◌<◌, Some, length}
use Rattle.vm_state.specs.declared.value.Value.{Value}
use Rattle.vm_state.specs.declared.value.Value.TheVariants as values
use Rattle.vm_state.specs.SharedState.{Region, slots_at}
use Rattle.semantics.specs.Lawful.{HoldsOfSlots}
use Rattle.semantics.specs.Quiet.{Environment}
use Rattle.program.specs.Tables.{Tables}

-- a string that a value refers to is one of the program's
abbrev pub HasText : Tables → Value → Type 0
HasText P (values.Text s) = s < length P.strings
HasText P _ = Unit {0}

-- so is each of a region's, in its statics and in its objects
pub record HasTexts (P : Tables) (region : Region) : Type 0 where
  pub statics : (k : ℕ) → HasText P (region.fields k)
  pub slots : (n : ℕ) → HoldsOfSlots (HasText P) (slots_at region.pool n)

-- and of the regions at hand
abbrev pub HaveTexts : Tables → Environment → Type 0
HaveTexts P env = (d : ℕ) (region : Region) → env d ≡ Some region → HasTexts P region
