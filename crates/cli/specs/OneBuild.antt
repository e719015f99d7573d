-- What is built of class files' bytes, or told of them, whatever their order.
use Rattle.std.specs.Prelude.{◌≡◌, ℕ, List, Option, map, ⊤}
use Rattle.std.specs.List.{All}
use Rattle.std.specs.List.Sorted.{IsPermutation}
use Rattle.classfile.specs.Faults.{IsBytes}
use Rattle.region_shape.specs.Regions.{environment_of}
use Rattle.initializer_analysis.specs.declared.verdict.Verdict.{Verdict}
use Rattle.wave_scheduler.specs.Outcomes.{outcome_of}
use Rattle.wave_scheduler.specs.Settled.{Outcome}
use Rattle.object_graph.specs.Images.{ImageTables}
use Rattle.building.specs.declared.build.BuildFault.{BuildFault}
use Rattle.building.specs.declared.build.BuildFault.TheVariants as faults
use Rattle.building.specs.Builds.{IsBuilt}
use Rattle.building.specs.Laws.{SaysTheSame}
use Rattle.cli.specs.Builds.{BuildFails, IsBudget}
use Rattle.cli.specs.Runs.{IsProgramOf}

-- two images have the same program, and of each class the same region or none
pub record HoldTheSame (I J : ImageTables) : Type 0 where
  pub program : I.program ≡ J.program
  pub regions : (c : ℕ) → environment_of I.regions c ≡ environment_of J.regions c

-- By the same options and the same budget texts in another order make the same image, with the same verdicts.
abbrev pub OneBuild : Type 0
OneBuild = (texts moved : List (List ℕ)) (run_time build_time : Option (List ℕ)) (budget : ℕ) (I J : ImageTables)
    (first second : List Verdict) → IsPermutation texts moved → IsProgramOf texts I.program
    → IsBuilt run_time build_time budget I (map outcome_of first) → IsProgramOf moved J.program
    → IsBuilt run_time build_time budget J (map outcome_of second) → HoldTheSame I J × (first ≡ second)

-- Two faults are the same, but that the order says which of several texts that are no class files is told. Of a pattern
-- its bytes are looked at.
abbrev pub TellTheSame : BuildFault → BuildFault → Type 0
TellTheSame (faults.Class place fault) (faults.Class other also) = ⊤
TellTheSame (faults.Option fault) (faults.Option other) = SaysTheSame fault other
TellTheSame fault other = fault ≡ other

-- Of texts in another order the same fault is told.
abbrev pub OneBuildFault : Type 0
OneBuildFault = (texts moved : List (List ℕ)) (run_time build_time : Option (List ℕ)) (budget : ℕ)
    (fault other : BuildFault) → All IsBytes texts → IsPermutation texts moved
    → BuildFails texts run_time build_time budget fault → BuildFails moved run_time build_time budget other
    → TellTheSame fault other

-- What is built in one order is not refused in another.
abbrev pub BuiltOrRefused : Type 0
BuiltOrRefused = (texts moved : List (List ℕ)) (run_time build_time : Option (List ℕ)) (budget : ℕ) (I : ImageTables)
    (outcomes : List Outcome) (fault : BuildFault) → All IsBytes texts → IsPermutation texts moved → IsBudget budget
    → IsProgramOf texts I.program → IsBuilt run_time build_time budget I outcomes
    → BuildFails moved run_time build_time budget fault → ⊥
