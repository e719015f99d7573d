-- What is known before any initializer is run: what options ask for, and the verdicts on all classes.
use Rattle.std.specs.Prelude.{◌≡◌, ℕ, Bool, List, Option}
use Rattle.std.specs.List.{All}
use Rattle.program.specs.Tables.{Tables}
use Rattle.initializer_analysis.specs.Verdicts.{AreVerdicts}
use Rattle.options.specs.Classes.{AreClasses, IsDemanded, IsForced}
use Rattle.options.specs.Faults.{AreApart, IsKnown}
use Rattle.options.specs.declared.fault.OptionFault.{OptionFault}
use Rattle.building.specs.declared.asking.AskedOptions.{AskedOptions}
use Rattle.building.specs.Builds.{IsRead, patterns_in}

-- these patterns for build time are asked for, where these classes are forced
pub record AsksOf (P : Tables) (patterns : List (List ℕ)) (forced : List Bool) (asked : AskedOptions) : Type 0 where
  pub same : asked.forced ≡ forced
  pub known : All (IsKnown P.family) patterns
  pub demanded : AreClasses asked.demand (IsDemanded P.family patterns)
  pub apart : AreApart (IsDemanded P.family patterns) asked.forced
  pub verdicts : AreVerdicts P asked.forced asked.verdicts

-- the patterns of both lists are asked for
pub record AsksBy (P : Tables) (run build : List (List ℕ)) (asked : AskedOptions) : Type 0 where
  pub known : All (IsKnown P.family) run
  pub are : AreClasses asked.forced (IsForced P.family run)
  pub of : AsksOf P build asked.forced asked

-- both lists are
pub record IsAsked (P : Tables) (run build : Option (List ℕ)) (asked : AskedOptions) : Type 0 where
  pub run_list : IsRead run
  pub build_list : IsRead build
  pub by : AsksBy P (patterns_in run) (patterns_in build) asked

-- it is a fault whatever the budget is
abbrev pub Always : (ℕ → OptionFault → Type 0) → OptionFault → Type 0
Always Fails fault = (budget : ℕ) → Fails budget fault
