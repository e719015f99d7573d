-- What holds of bytes: they make a program, or are refused for one fault; and so are runs and builds of them. What is
-- refused is not run.
use Rattle.std.specs.Prelude.{◌≡◌, ℕ, List, map, Option, Some}
use Rattle.std.specs.List.{All}
use Rattle.classfile.specs.Faults.{IsBytes}
use Rattle.semantics.specs.Worlds.{World}
use Rattle.program.specs.Tables.{Tables}
use Rattle.object_graph.specs.Images.{ImageTables}
use Rattle.building.specs.Builds.{text_of}
use Rattle.building.specs.Laws.{SaysTheSame}
use Rattle.building.specs.declared.build.BuildFault.{BuildFault}
use Rattle.building.specs.declared.build.BuildFault.TheVariants as faults
use Rattle.command_line.specs.Requests.{texts}
use Rattle.command_line.specs.declared.request.Build.{Build}
use Rattle.command_line.specs.declared.request.Building.{Building}
use Rattle.command_line.specs.declared.request.Lazy.{Lazy}
use Rattle.command_line.specs.declared.request.Request.TheVariants as requests
use Rattle.command_line.specs.declared.request.Run.{Run}
use Rattle.cli.specs.declared.fault.CommandFault.{CommandFault}
use Rattle.cli.specs.Begins.{IsBegunFromImage}
use Rattle.cli.specs.Builds.{BuildFails}
use Rattle.cli.specs.Done.{HasBuilt}
use Rattle.cli.specs.ImageBuilds.{IsImageOf}
use Rattle.cli.specs.ImageRuns.{IsNoRun}
use Rattle.cli.specs.Entries.{entry_names}
use Rattle.cli.specs.Files.{AreTextsOf, Contents}
use Rattle.cli.specs.Running.{IsOfRun}
use Rattle.cli.specs.Runs.{IsProgramOf, IsRefused, NotLinked}

-- Texts that make a program are not refused.
abbrev pub LinkedAreNotRefused : Type 0
LinkedAreNotRefused =
    (texts : List (List ℕ)) (P : Tables) (refusal : CommandFault) → All IsBytes texts → IsProgramOf texts P
    → ¬ NotLinked texts refusal

-- Texts are refused for one fault.
abbrev pub OneRefusal : Type 0
OneRefusal =
    (texts : List (List ℕ)) (first second : CommandFault) → All IsBytes texts → NotLinked texts first
    → NotLinked texts second → first ≡ second

-- A run of class files from some entries is refused for one fault.
abbrev pub OneRunRefusal : Type 0
OneRunRefusal =
    (texts names : List (List ℕ)) (first second : CommandFault) → All IsBytes texts → IsRefused texts names first
    → IsRefused texts names second → first ≡ second

-- A run of an image from some entries is refused for one fault.
abbrev pub OneImageRunRefusal : Type 0
OneImageRunRefusal =
    (bytes : List ℕ) (names : List (List ℕ)) (first second : CommandFault) → IsBytes bytes → IsNoRun bytes names first
    → IsNoRun bytes names second → first ≡ second

-- Two faults of a build are the same, with the place of a text that is no class file. Of a pattern its bytes are looked
-- at, and not where they are kept.
abbrev pub AreTheSame : BuildFault → BuildFault → Type 0
AreTheSame (faults.Option fault) (faults.Option other) = SaysTheSame fault other
AreTheSame fault other = fault ≡ other

-- A build of class files by some options is refused for one fault.
abbrev pub OneBuildRefusal : Type 0
OneBuildRefusal =
    (texts : List (List ℕ)) (run_time build_time : Option (List ℕ)) (budget : ℕ) (first second : BuildFault)
    → All IsBytes texts → BuildFails texts run_time build_time budget first
    → BuildFails texts run_time build_time budget second → AreTheSame first second

-- The class files that words name, where it is known what these files hold, are not run if they or the entries are
-- refused: nothing that goes out then is of a run.
abbrev pub RefusedFilesAreNotRun : Type 0
RefusedFilesAreNotRun =
    (holds : Contents) (words : Lazy) (files : List (List ℕ)) (refusal : CommandFault) (before after : Option (List ℕ))
    → All IsBytes files → map holds (texts words.files.items) ≡ map Some files
    → IsRefused files (entry_names words.entries.now) refusal → ¬ IsOfRun holds (requests.Lazy words) before after

-- Neither is an image, or what is none.
abbrev pub RefusedImagesAreNotRun : Type 0
RefusedImagesAreNotRun =
    (holds : Contents) (words : Run) (bytes : List ℕ) (refusal : CommandFault) (before after : Option (List ℕ))
    → IsBytes bytes → holds words.image.now ≡ Some bytes → IsNoRun bytes (entry_names words.entries.now) refusal
    → ¬ IsOfRun holds (requests.Run words) before after

-- The image is one of the class files that the words of a build name, built as they say.
pub record IsImageOfWords (holds : Contents) (words : Building) (I : ImageTables) : Type 0 where
  pub files : List (List ℕ)
  pub held : AreTextsOf holds (texts words.files.items) files
  pub of : IsImageOf files (text_of words.run_time) (text_of words.build_time) words.budget I

-- What a build wrote is run as the image of that build, where it is known what its file holds. So the run shows what
-- the class files show under some schedule, and conversely.
abbrev pub BuiltImagesAreRun : Type 0
BuiltImagesAreRun =
    (old new : Contents) (words : Build) (bytes list : List ℕ) (I : ImageTables) (w : World) → HasBuilt old new words
    → new words.image.now ≡ Some bytes → IsBegunFromImage new words.image.now list I w
    → IsImageOfWords old words.building I
