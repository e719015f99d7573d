-- What a build of class files' bytes answers: an image, or, but for want of memory, why they make none.
use Rattle.std.specs.Prelude.{ℕ, ◌<◌, ◌≤◌, List, map, Option}
use Rattle.classfile.specs.ClassFile.{ClassFile}
use Rattle.classfile.specs.declared.fault.ClassFault.{ClassFault}
use Rattle.loading.specs.Files.{LinkFails}
use Rattle.loading.specs.declared.fault.LinkFault.{LinkFault}
use Rattle.program.specs.Tables.{Tables}
use Rattle.options.specs.declared.fault.OptionFault.{OptionFault}
use Rattle.building.specs.declared.build.BuildFault.{BuildFault}
use Rattle.building.specs.declared.build.BuildFault.TheVariants.{Class, Link, Budget}
use Rattle.building.specs.declared.build.BuildFault.TheVariants as faults
use Rattle.building.specs.declared.build.BuildOptions.{BuildOptions}
use Rattle.building.specs.declared.build.Built.{Built}
use Rattle.building.specs.Builds.{text_of, HoldsAccepted, IsBuilt}
use Rattle.building.specs.Refusals.{OptionsFail}
use Rattle.report.specs.Waves.{GiveWaves}
use Rattle.wave_scheduler.specs.Outcomes.{outcome_of}
use Rattle.cli.specs.Headline.{ClassFilesToImage, ImageToClassFiles, TakesTheSameEntries}
use Rattle.cli.specs.Runs.{AreClassFiles, IsFirstBad, IsProgramOf}

-- what an initializer may be given: 1 to 1,000,000,000 units
abbrev pub IsBudget : ℕ → Type 0
IsBudget budget = (0 < budget) × (budget ≤ 1000000000)

-- The first that is wrong: the budget; a text, which is no class file; what the class files do not link for; what is
-- wrong with the options in the program that they make.
pub data BuildFails (texts : List (List ℕ)) (run_time build_time : Option (List ℕ)) (budget : ℕ)
    : BuildFault → Type 0 where
  range : (¬ IsBudget budget) → BuildFails texts run_time build_time budget Budget
  class : {place : ℕ} {fault : ClassFault} → IsBudget budget → IsFirstBad texts place fault
      → BuildFails texts run_time build_time budget (Class place fault)
  link : {files : List ClassFile} {fault : LinkFault} → IsBudget budget → AreClassFiles texts files
      → LinkFails files fault → BuildFails texts run_time build_time budget (Link fault)
  options : {P : Tables} {fault : OptionFault} → IsBudget budget → IsProgramOf texts P
      → OptionsFail P run_time build_time budget fault
      → BuildFails texts run_time build_time budget (faults.Option fault)

-- An image and the last verdicts, built by these options of the class files that these texts are.
pub record IsBuildOfClassFiles (texts : List (List ℕ)) (options : BuildOptions) (answer : Built) : Type 0 where
  -- the texts are class files that link to the image's program
  pub program : IsProgramOf texts answer.image.program
  -- Its regions are those of the classes that are accepted, where those are forced that the options say. Those that are
  -- demanded are among the accepted ones.
  pub built : IsBuilt (text_of options.run_time) (text_of options.build_time) options.budget answer.image
      (map outcome_of answer.verdicts)
  pub range : IsBudget options.budget
  -- the image holds exactly the accepted classes' results
  pub exact : HoldsAccepted (text_of options.run_time) options.budget answer.image
  -- The headline: what the class files show under some schedule of the lazy procedure, a run from the image shows under
  -- some schedule, and conversely, for every list of entries.
  pub to_image : ClassFilesToImage answer.image
  pub to_class_files : ImageToClassFiles answer.image
  pub entries : TakesTheSameEntries answer.image
  -- the classes that have a wave are those that have a region
  pub waves : GiveWaves answer.image answer.verdicts
