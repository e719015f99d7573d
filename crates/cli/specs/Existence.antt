-- What there is of any class files' bytes and any options: a program or a refusal, an image or a fault.
use Rattle.std.specs.Prelude.{◌⊎◌, ℕ, List, map, Option}
use Rattle.std.specs.List.{All}
use Rattle.classfile.specs.Faults.{IsBytes}
use Rattle.initializer_analysis.specs.declared.verdict.Verdict.{Verdict}
use Rattle.program.specs.Tables.{Tables}
use Rattle.wave_scheduler.specs.Outcomes.{outcome_of}
use Rattle.object_graph.specs.Images.{ImageTables}
use Rattle.building.specs.declared.build.BuildFault.{BuildFault}
use Rattle.building.specs.Builds.{patterns_in, IsBuilt}
use Rattle.building.specs.Laws.{AreTexts}
use Rattle.cli.specs.declared.fault.CommandFault.{CommandFault}
use Rattle.cli.specs.Builds.{BuildFails, IsBudget}
use Rattle.cli.specs.Runs.{IsProgramOf, NotLinked}

-- Bytes make a program, or are refused.
abbrev pub ProgramOrRefusal : Type 0
ProgramOrRefusal = (texts : List (List ℕ)) → All IsBytes texts
    → ((P : Tables) × IsProgramOf texts P) ⊎ ((refusal : CommandFault) × NotLinked texts refusal)

-- an image of the class files that these texts are, by these options, with the last verdicts
pub record IsBuildable (texts : List (List ℕ)) (run_time build_time : Option (List ℕ)) (budget : ℕ) : Type 0 where
  pub image : ImageTables
  pub verdicts : List Verdict
  pub range : IsBudget budget
  pub program : IsProgramOf texts image.program
  pub built : IsBuilt run_time build_time budget image (map outcome_of verdicts)

-- An image can be built, or there is a first fault, and never both.
pub record IsBuildableOrFails (texts : List (List ℕ)) (run_time build_time : Option (List ℕ)) (budget : ℕ)
    : Type 0 where
  pub some : IsBuildable texts run_time build_time budget
      ⊎ ((fault : BuildFault) × BuildFails texts run_time build_time budget fault)
  pub not_both : (fault : BuildFault) → IsBuildable texts run_time build_time budget
      → ¬ BuildFails texts run_time build_time budget fault

-- It is so of all bytes and all options.
abbrev pub BuildOrFault : Type 0
BuildOrFault = (texts : List (List ℕ)) (run_time build_time : Option (List ℕ)) (budget : ℕ) → All IsBytes texts
    → AreTexts (patterns_in run_time) → AreTexts (patterns_in build_time)
    → IsBuildableOrFails texts run_time build_time budget
