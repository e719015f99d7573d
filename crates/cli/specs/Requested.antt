-- The build that words ask for.
use Rattle.std.specs.Prelude.{ℕ, List}
use Rattle.building.specs.declared.build.BuildOptions.{BuildOptions}
use Rattle.building.specs.declared.build.Built.{Built}
use Rattle.command_line.specs.Requests.{texts}
use Rattle.command_line.specs.declared.request.Building.{Building}
use Rattle.cli.specs.Builds.{IsBuildOfClassFiles}
use Rattle.cli.specs.Files.{AreTextsOf, Contents}

-- what the words say of a build
abbrev pub options_of : Building → BuildOptions
options_of words = record { run_time = words.run_time; build_time = words.build_time; budget = words.budget }

-- This is built of what the files hold that the words name, as the words say.
pub record IsAskedBuild (holds : Contents) (words : Building) (answer : Built) : Type 0 where
  pub files : List (List ℕ)
  pub held : AreTextsOf holds (texts words.files.items) files
  pub build : IsBuildOfClassFiles files (options_of words) answer
