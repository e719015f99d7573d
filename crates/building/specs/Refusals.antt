-- Why a program is not built by some options, but for want of memory. What is told is the first that is wrong.
use Rattle.std.specs.Prelude.{ℕ, Bool, List, Option, Some, None}
use Rattle.std.specs.List.{All}
use Rattle.program.specs.Tables.{Tables}
use Rattle.wave_scheduler.specs.Settled.{Settled, AreSettled}
use Rattle.options.specs.Lists.{ListFails}
use Rattle.options.specs.Classes.{AreClasses, IsDemanded, IsForced}
use Rattle.options.specs.Demands.{IsUnmet}
use Rattle.options.specs.Faults.{AreApart, IsKnown, DemandFails, PatternsFail}
use Rattle.options.specs.declared.fault.OptionFault.{OptionFault}
use Rattle.building.specs.declared.build.BuildFault.{BuildFault}
use Rattle.building.specs.declared.build.BuildFault.TheVariants as faults
use Rattle.building.specs.Builds.{IsRead, patterns_in}

-- what is wrong with a list, if there is one
abbrev pub IsListFault : Option (List ℕ) → OptionFault → Type 0
IsListFault None fault = ⊥
IsListFault (Some text) fault = ListFails text fault

-- The list for run time is wrong, or else the one for build time.
pub data ListsFail (run_time build_time : Option (List ℕ)) (fault : OptionFault) : Type 0 where
  first : IsListFault run_time fault → ListsFail run_time build_time fault
  second : IsRead run_time → IsListFault build_time fault → ListsFail run_time build_time fault

-- All classes are settled, and one that is demanded is not accepted.
pub record IsLeftUnmet (P : Tables) (demand forced : List Bool) (budget : ℕ) (fault : OptionFault) : Type 0 where
  pub last : Settled
  pub settled : AreSettled P forced budget last
  pub unmet : IsUnmet P demand last fault

-- The patterns for build time can't be demanded, or else what they demand is not met.
pub data DemandsFail (P : Tables) (patterns : List (List ℕ)) (forced : List Bool) (budget : ℕ) (fault : OptionFault)
    : Type 0 where
  wrong : DemandFails P.family patterns forced fault → DemandsFail P patterns forced budget fault
  unmet : (demand : List Bool) → All (IsKnown P.family) patterns
      → AreClasses demand (IsDemanded P.family patterns) → AreApart (IsDemanded P.family patterns) forced
      → IsLeftUnmet P demand forced budget fault → DemandsFail P patterns forced budget fault

-- A pattern for run time matches no class, or else those for build time fail.
pub data ForcingFails (P : Tables) (run_time build_time : List (List ℕ)) (budget : ℕ) (fault : OptionFault)
    : Type 0 where
  unmatched : PatternsFail P.family run_time fault → ForcingFails P run_time build_time budget fault
  demands : (forced : List Bool) → All (IsKnown P.family) run_time → AreClasses forced (IsForced P.family run_time)
      → DemandsFail P build_time forced budget fault → ForcingFails P run_time build_time budget fault

-- A list is wrong, or else the patterns.
pub data OptionsFail (P : Tables) (run_time build_time : Option (List ℕ)) (budget : ℕ) (fault : OptionFault)
    : Type 0 where
  lists : ListsFail run_time build_time fault → OptionsFail P run_time build_time budget fault
  patterns : IsRead run_time → IsRead build_time
      → ForcingFails P (patterns_in run_time) (patterns_in build_time) budget fault
      → OptionsFail P run_time build_time budget fault

-- nothing was built for such a fault of the options
pub data IsOption (Fails : OptionFault → Type 0) : BuildFault → Type 0 where
  option : {fault : OptionFault} → Fails fault → IsOption Fails (faults.Option fault)
