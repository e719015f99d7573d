-- The start of a run from an image.
use Rattle.std.specs.Prelude.{◌≡◌, ℕ, List}
use Rattle.semantics.specs.Worlds.{World}
use Rattle.program.specs.Programs.{IsProgram}
use Rattle.program.specs.Tables.{Tables}
use Rattle.object_graph.specs.Images.{ImageTables}
use Rattle.image_reader.specs.Starts.{IsImageStart}
use Rattle.cli.specs.Entries.{entry_names}
use Rattle.cli.specs.ImageBuilds.{IsReadAsBuilt}
use Rattle.cli.specs.ImageRuns.{IsSomeTextOf}

-- the image's program, and the start of these entries
pub record IsBegunFrom (I : ImageTables) (names : List (List ℕ)) (P : Tables) (w : World) : Type 0 where
  pub linked : IsProgram I.program
  pub program : I.program ≡ P
  pub start : IsImageStart I names w

-- the same from the entries of a list, of an image of which these bytes are a text
pub record IsBegunFromBytes (bytes list : List ℕ) (P : Tables) (w : World) : Type 0 where
  pub image : ImageTables
  pub text : IsSomeTextOf bytes image
  pub built : IsReadAsBuilt bytes image
  pub begun : IsBegunFrom image (entry_names list) P w
