-- Which demands are met.
use Rattle.std.specs.Prelude.{◌≡◌, ℕ, ◌<◌, Bool, List, Option, length, Some, None, IsTrue, slice_get}
use Rattle.std.specs.Option.{option_map}
use Rattle.classfile.specs.Units.{units_text}
use Rattle.loading.specs.Families.{Family, name_in}
use Rattle.program.specs.Tables.{Tables}
use Rattle.initializer_analysis.specs.Forced.{has_class}
use Rattle.initializer_analysis.specs.declared.verdict.Reason.{Reason}
use Rattle.initializer_analysis.specs.declared.verdict.Reason.TheVariants.{DependsOn}
use Rattle.initializer_analysis.specs.declared.verdict.Verdict.TheVariants.{Refused}
use Rattle.wave_scheduler.specs.Outcomes.{outcome_of}
use Rattle.wave_scheduler.specs.Settled.{Settled, IsAccepted}
use Rattle.options.specs.declared.fault.OptionFault.{OptionFault}
use Rattle.options.specs.declared.fault.OptionFault.TheVariants.{Demanded}

-- each class that is demanded is accepted
abbrev pub AreMet : Tables → List Bool → Settled → Type 0
AreMet P demand S = (c : ℕ) → c < length P.classes → IsTrue (has_class demand c) → IsAccepted S c

-- a class is demanded, and not accepted
abbrev pub IsUnaccepted : List Bool → Settled → ℕ → Type 0
IsUnaccepted demand S c = IsTrue (has_class demand c) × (¬ IsAccepted S c)

-- the least such class
pub record IsFirstUnaccepted (P : Tables) (demand : List Bool) (S : Settled) (c : ℕ) : Type 0 where
  pub low : c < length P.classes
  pub here : IsUnaccepted demand S c
  pub before : (d : ℕ) → d < c → ¬ IsUnaccepted demand S d

-- the name of the class that is depended on, where this is the reason
abbrev pub used_name : Family → Reason → Option (List ℕ)
used_name family (DependsOn e) = name_in family e
used_name family reason = None

-- what is wrong with the demands, but for want of memory
pub data IsUnmet (P : Tables) (demand : List Bool) (S : Settled) : OptionFault → Type 0 where
  unmet : {class : ℕ} {name : List ℕ} {reason : Reason} {used : Option (List ℕ)} → IsFirstUnaccepted P demand S class
      → slice_get S.outcomes class ≡ Some (outcome_of (Refused reason))
      → name_in P.family class ≡ Some (units_text name) → used_name P.family reason ≡ option_map units_text used
      → IsUnmet P demand S (Demanded name (record { reason = reason; used = used }))
