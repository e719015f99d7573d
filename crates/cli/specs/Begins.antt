-- What a run begins with that words ask for, of what the files hold that they name.
use Rattle.std.specs.Prelude.{◌≡◌, ℕ, List}
use Rattle.semantics.specs.Worlds.{World}
use Rattle.program.specs.Programs.{IsProgram}
use Rattle.program.specs.Tables.{Tables}
use Rattle.object_graph.specs.Images.{ImageTables}
use Rattle.init_engine.specs.Starts.{IsStart}
use Rattle.image_reader.specs.Starts.{IsImageStart}
use Rattle.command_line.specs.Requests.{texts}
use Rattle.command_line.specs.declared.request.Lazy.{Lazy}
use Rattle.command_line.specs.declared.request.Request.{Request}
use Rattle.command_line.specs.declared.request.Request.TheVariants as requests
use Rattle.cli.specs.Entries.{entry_names}
use Rattle.cli.specs.Files.{AreBytesOf, AreTextsOf, Contents}
use Rattle.cli.specs.ImageBuilds.{IsReadAsBuilt}
use Rattle.cli.specs.ImageRuns.{IsSomeTextOf}
use Rattle.cli.specs.Runs.{IsProgramOf}

-- The lazy start, from the entries of the words, of the program of the class files that they name.
pub record IsBegun (holds : Contents) (words : Lazy) (P : Tables) (w : World) : Type 0 where
  pub files : List (List ℕ)
  pub held : AreTextsOf holds (texts words.files.items) files
  pub program : IsProgramOf files P
  pub start : IsStart P (entry_names words.entries.now) w

-- The start, from the entries of a list, of the image that the file of this name holds.
pub record IsBegunFromImage (holds : Contents) (name list : List ℕ) (I : ImageTables) (w : World) : Type 0 where
  pub bytes : List ℕ
  pub held : AreBytesOf (holds name) bytes
  pub text : IsSomeTextOf bytes I
  -- Where a build wrote the file, this is the image of that build. So what is said of what class files and their image
  -- show holds of the run that begins here.
  pub built : IsReadAsBuilt bytes I
  pub program : IsProgram I.program
  pub start : IsImageStart I (entry_names list) w

-- The start from that file, with the program of its image.
pub record IsBegunFromFile (holds : Contents) (name list : List ℕ) (P : Tables) (w : World) : Type 0 where
  pub image : ImageTables
  pub program : image.program ≡ P
  pub begun : IsBegunFromImage holds name list image w

-- What a run begins with that is asked for: a lazy start of class files, or a start of an image.
abbrev pub IsFirst : Contents → Request → Tables → World → Type 0
IsFirst holds (requests.Lazy words) P w = IsBegun holds words P w
IsFirst holds (requests.Run words) P w = IsBegunFromFile holds words.image.now words.entries.now P w
IsFirst holds (requests.Replay words) P w = IsBegunFromFile holds words.image.now words.entries.now P w
IsFirst _ _ P w = ⊥
