-- What an image is of.
use Rattle.std.specs.Prelude.{◌≡◌, ◌↔◌, ℕ, Bool, List, [], length, map, Option, Some, None, option_map, IsSome}
use Rattle.std.specs.Borrow.{Bor}
use Rattle.std.specs.List.{All}
use Rattle.vm_state.specs.SharedState.{Region}
use Rattle.semantics.specs.Acceptance.{Accepted, Analysis}
use Rattle.semantics.specs.Images.{image_start}
use Rattle.semantics.specs.Quiet.{Environment}
use Rattle.semantics.specs.Worlds.{Observation, Shows, lazy_start}
use Rattle.program.specs.Tables.{Tables}
use Rattle.machine.specs.Linked.{program_of}
use Rattle.region_shape.specs.Regions.{environment_of}
use Rattle.initializer_analysis.specs.Verdicts.{IsAccepted}
use Rattle.wave_scheduler.specs.Laws.{IsAnalysis}
use Rattle.wave_scheduler.specs.Outcomes.{outcome_of}
use Rattle.wave_scheduler.specs.Settled.{Outcome, Settled, region_in, AreSettled}
use Rattle.options.specs.Lists.{items_of, IsNonEmpty}
use Rattle.options.specs.Classes.{AreClasses, IsDemanded, IsForced}
use Rattle.options.specs.Demands.{AreMet}
use Rattle.options.specs.Faults.{AreApart, IsKnown}
use Rattle.object_graph.specs.Cuts.{IsCutOf}
use Rattle.object_graph.specs.Images.{ImageTables, start_image}
use Rattle.building.specs.declared.build.BuildOptions.{BuildOptions}
use Rattle.building.specs.declared.build.Built.{Built}

-- ---- lists of patterns, as options give them

-- the text of an option, if there is one
abbrev pub text_of : Option (Bor (List ℕ)) → Option (List ℕ)
text_of option = option_map (λ (s : Bor (List ℕ)). s.now) option

-- the patterns of a list, and none where there is no list
abbrev pub patterns_in : Option (List ℕ) → List (List ℕ)
patterns_in None = []
patterns_in (Some list) = items_of list

-- the list, if there is one, has no empty item
abbrev pub IsRead : Option (List ℕ) → Type 0
IsRead list = All IsNonEmpty (patterns_in list)

-- ---- what becomes of classes by the options

-- What these patterns demand at build time is met, where these classes are forced to run time.
pub record AreDemandsMet (P : Tables) (patterns : List (List ℕ)) (forced : List Bool) (S : Settled) : Type 0 where
  -- each pattern matches a class
  pub known : All (IsKnown P.family) patterns
  -- the classes that are demanded: none of them is forced, and each is accepted
  pub demand : List Bool
  pub are : AreClasses demand (IsDemanded P.family patterns)
  pub apart : AreApart (IsDemanded P.family patterns) forced
  pub met : AreMet P demand S

-- This becomes of all classes by the patterns for run time and those for build time.
pub record IsSettledBy (P : Tables) (run_time build_time : List (List ℕ)) (budget : ℕ) (S : Settled) : Type 0 where
  -- each pattern for run time matches a class
  pub known : All (IsKnown P.family) run_time
  -- the classes that are forced to run time
  pub forced : List Bool
  pub are : AreClasses forced (IsForced P.family run_time)
  pub settled : AreSettled P forced budget S
  pub demands : AreDemandsMet P build_time forced S

-- This becomes of all classes by the lists of the options.
pub record IsSettledAs (P : Tables) (run_time build_time : Option (List ℕ)) (budget : ℕ) (S : Settled) : Type 0 where
  pub run_list : IsRead run_time
  pub build_list : IsRead build_time
  pub patterns : IsSettledBy P (patterns_in run_time) (patterns_in build_time) budget S

-- The image has the regions of the classes that are accepted then, without the objects that no static field reaches,
-- and this became of all classes.
pub record IsBuilt (run_time build_time : Option (List ℕ)) (budget : ℕ) (I : ImageTables) (outcomes : List Outcome)
    : Type 0 where
  pub settled : Settled
  pub by : IsSettledAs I.program run_time build_time budget settled
  pub cut : IsCutOf I.program (region_in settled) (environment_of I.regions)
  pub told : settled.outcomes ≡ outcomes

-- The image holds exactly the accepted classes' results: it has a region of a class exactly where the class is
-- accepted, and then what is left of the one that its initializer leaves, without the objects that no static field
-- reaches.
pub record HoldsAccepted (run_time : Option (List ℕ)) (budget : ℕ) (I : ImageTables) : Type 0 where
  -- the classes that are forced to run time
  pub forced : List Bool
  pub are : AreClasses forced (IsForced I.program.family (patterns_in run_time))
  -- of each class its uses and whether it is allowed, and the budget
  pub analysis : Analysis
  pub is : IsAnalysis I.program forced budget analysis
  -- what the initializers of the accepted classes leave
  pub whole : Environment
  pub exactly : (c : ℕ) (r : Region) → (whole c ≡ Some r) ↔ Accepted (program_of I.program) analysis c r
  pub cut : IsCutOf I.program whole (environment_of I.regions)

-- From any entry classes a run from the image and the lazy procedure show the same.
abbrev pub StartsShowTheSame : ImageTables → Type 0
StartsShowTheSame I = (entries : List ℕ) (s : Observation)
    → Shows (program_of I.program) (lazy_start (program_of I.program) entries) s
    ↔ Shows (program_of I.program) (image_start (program_of I.program) (start_image I) entries) s

-- ---- what is built

-- An image of this program and the last verdicts, built by these options.
pub record IsBuildOfProgram (P : Tables) (options : BuildOptions) (answer : Built) : Type 0 where
  pub program : answer.image.program ≡ P
  pub built : IsBuilt (text_of options.run_time) (text_of options.build_time) options.budget answer.image
      (map outcome_of answer.verdicts)
  -- the image holds exactly the accepted classes' results
  pub exact : HoldsAccepted (text_of options.run_time) options.budget answer.image
  -- from any entry classes a run from the image and the lazy procedure show the same
  pub shows : StartsShowTheSame answer.image
  -- the classes that have a wave are those that have a region
  pub count : length answer.verdicts ≡ length answer.image.program.classes
  pub waves : (class : ℕ) → IsAccepted answer.verdicts class ↔ IsSome (environment_of answer.image.regions class)
