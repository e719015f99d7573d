-- What holds of options: the program, the options and the budget determine what becomes of all classes, or why nothing
-- is built; and one of both there is.
use Rattle.std.specs.Prelude.{◌≡◌, ◌⊎◌, ℕ, ◌<◌, ◌^◌, List, length, map, Option, string_bytes}
use Rattle.std.specs.List.{All}
use Rattle.std.specs.Str.{IsUtf8}
use Rattle.initializer_analysis.specs.declared.verdict.Verdict.{Verdict}
use Rattle.program.specs.Tables.{Tables}
use Rattle.region_shape.specs.Laws.{IsFromFile, IsLinked}
use Rattle.wave_scheduler.specs.Outcomes.{outcome_of}
use Rattle.wave_scheduler.specs.Settled.{Settled}
use Rattle.object_graph.specs.Images.{ImageTables}
use Rattle.options.specs.declared.fault.OptionFault.{OptionFault}
use Rattle.options.specs.declared.fault.OptionFault.TheVariants.{Unknown}
use Rattle.building.specs.Builds.{IsBuilt, IsSettledAs, patterns_in}
use Rattle.building.specs.Refusals.{OptionsFail}

-- One thing becomes of all classes.
abbrev pub OneSettledAs : Type 0
OneSettledAs =
    (P : Tables) (run_time build_time : Option (List ℕ)) (budget : ℕ) (first second : Settled)
    → IsSettledAs P run_time build_time budget first → IsSettledAs P run_time build_time budget second
    → first ≡ second

-- Nothing is wrong with options by which all classes are settled.
abbrev pub SettledHaveNoFault : Type 0
SettledHaveNoFault =
    (P : Tables) (run_time build_time : Option (List ℕ)) (budget : ℕ) (settled : Settled) (fault : OptionFault)
    → IsSettledAs P run_time build_time budget settled → ¬ OptionsFail P run_time build_time budget fault

-- two faults are the same; of a pattern its bytes are looked at, and not where they are kept
abbrev pub SaysTheSame : OptionFault → OptionFault → Type 0
SaysTheSame (Unknown first) (Unknown second) = string_bytes first ≡ string_bytes second
SaysTheSame first second = first ≡ second

-- One fault is told.
abbrev pub OneFault : Type 0
OneFault =
    (P : Tables) (run_time build_time : Option (List ℕ)) (budget : ℕ) (first second : OptionFault)
    → OptionsFail P run_time build_time budget first → OptionsFail P run_time build_time budget second
    → SaysTheSame first second

-- ---- there is an image, or a fault

-- Each item is a text, in UTF-8 and of fewer than 2^63 bytes.
abbrev pub AreTexts : List (List ℕ) → Type 0
AreTexts items = All (λ item. IsUtf8 item × (length item < 2 ^ 63)) items

-- an image of this program by these options, with the last verdicts
pub record HasImage (P : Tables) (run_time build_time : Option (List ℕ)) (budget : ℕ) : Type 0 where
  pub image : ImageTables
  pub verdicts : List Verdict
  pub program : image.program ≡ P
  pub built : IsBuilt run_time build_time budget image (map outcome_of verdicts)

-- Of each linked program there is an image by any options, or a fault of these.
abbrev pub BuiltOrFault : Type 0
BuiltOrFault =
    (P : Tables) (run_time build_time : Option (List ℕ)) (budget : ℕ) → IsLinked P → ((c : ℕ) → IsFromFile P c)
    → AreTexts (patterns_in run_time) → AreTexts (patterns_in build_time)
    → HasImage P run_time build_time budget
    ⊎ ((fault : OptionFault) × OptionsFail P run_time build_time budget fault)
