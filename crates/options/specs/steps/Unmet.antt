-- Whether a class that is demanded is accepted.
use Rattle.std.specs.Prelude.{◌≡◌, ℕ, ◌<◌, Bool, List, Option, Some, None, IsTrue, slice_get}
use Rattle.std.specs.Option.{option_map}
use Rattle.classfile.specs.Units.{units_text}
use Rattle.loading.specs.Families.{Family, name_in}
use Rattle.initializer_analysis.specs.Forced.{has_class}
use Rattle.initializer_analysis.specs.declared.verdict.Reason.{Reason}
use Rattle.initializer_analysis.specs.declared.verdict.Verdict.{Verdict}
use Rattle.initializer_analysis.specs.declared.verdict.Verdict.TheVariants.{Wave, Refused}
use Rattle.wave_scheduler.specs.Settled.{Settled}
use Rattle.options.specs.Demands.{IsUnaccepted, used_name}
use Rattle.options.specs.declared.fault.OptionFault.{OptionFault}
use Rattle.options.specs.declared.fault.OptionFault.TheVariants.{Demanded}

abbrev pub IsUnmetOf : List Verdict → List Bool → ℕ → Option Reason → Type 0
IsUnmetOf verdicts demand c None = IsTrue (has_class demand c) → (n : ℕ) × (slice_get verdicts c ≡ Some (Wave n))
IsUnmetOf verdicts demand c (Some reason) =
    IsTrue (has_class demand c) × (slice_get verdicts c ≡ Some (Refused reason))

abbrev pub NoneUnacceptedBelow : List Bool → Settled → ℕ → Type 0
NoneUnacceptedBelow demand S limit = (c : ℕ) → c < limit → ¬ IsUnaccepted demand S c

pub data NamesUnmet (family : Family) (class : ℕ) (reason : Reason) : OptionFault → Type 0 where
  named : {name : List ℕ} {used : Option (List ℕ)} → name_in family class ≡ Some (units_text name)
      → used_name family reason ≡ option_map units_text used
      → NamesUnmet family class reason (Demanded name (record { reason = reason; used = used }))
