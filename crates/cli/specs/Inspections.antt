-- What is said of the image that bytes are the text of, and the command `inspect`.
use Rattle.std.specs.Prelude.{ℕ, List, Option}
use Rattle.std.specs.Io.KnownBytes.{Appends}
use Rattle.object_graph.specs.Images.{ImageTables}
use Rattle.inspection.specs.Texts.{IsInspection}
use Rattle.command_line.specs.declared.request.Inspect.{Inspect}
use Rattle.cli.specs.Files.{AreBytesOf, Contents}
use Rattle.cli.specs.ImageRuns.{IsSomeTextOf}

-- The bytes are a text of an image, of either version, and this is what is said of it.
pub record IsInspected (bytes : List ℕ) (text : List ℕ) : Type 0 where
  pub image : ImageTables
  pub is_text : IsSomeTextOf bytes image
  pub inspection : IsInspection bytes image text

-- What is said of the image that the file of the words holds.
pub record IsInspectionOf (holds : Contents) (words : Inspect) (text : List ℕ) : Type 0 where
  pub bytes : List ℕ
  pub held : AreBytesOf (holds words.image.now) bytes
  pub is : IsInspected bytes text

-- The same went out.
pub record HasInspected (holds : Contents) (words : Inspect) (before after : Option (List ℕ)) : Type 0 where
  pub text : List ℕ
  pub is : IsInspectionOf holds words text
  pub sent : Appends before after text
