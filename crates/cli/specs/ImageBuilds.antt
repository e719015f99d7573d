-- From class files' bytes to the bytes of an image.
use Rattle.std.specs.Prelude.{◌≤◌, ℕ, List, Option, length}
use Rattle.std.specs.List.{All}
use Rattle.wave_scheduler.specs.Settled.{Outcome}
use Rattle.object_graph.specs.Images.{ImageTables}
use Rattle.building.specs.Builds.{HoldsAccepted, IsBuilt}
use Rattle.image_reader.specs.Readings.{IsOfOwnStrings}
use Rattle.cli.specs.Headline.{ShowsTheSame, TakesTheSameEntries}
use Rattle.cli.specs.ImageRuns.{IsTextOf}
use Rattle.cli.specs.Runs.{IsProgramOf}

-- no text is longer than so many bytes
abbrev pub AreAtMost : ℕ → List (List ℕ) → Type 0
AreAtMost most texts = All (λ (text : List ℕ). length text ≤ most) texts

-- An image of the program of class files that these texts are, built by these options and within this budget. It holds
-- exactly the accepted classes' results, and shows the same as the class files, from any entries.
pub record IsImageOf (texts : List (List ℕ)) (run_time build_time : Option (List ℕ)) (budget : ℕ) (I : ImageTables)
    : Type 0 where
  pub program : IsProgramOf texts I.program
  pub outcomes : List Outcome
  pub built : IsBuilt run_time build_time budget I outcomes
  pub exact : HoldsAccepted run_time budget I
  pub shows : ShowsTheSame I
  pub entries : TakesTheSameEntries I

-- The bytes are the text of such an image, as which they are read back: its regions tell no strings but those of the
-- class files.
pub record IsBuiltText (texts : List (List ℕ)) (run_time build_time : Option (List ℕ)) (budget : ℕ) (bytes : List ℕ)
    : Type 0 where
  pub image : ImageTables
  pub of : IsImageOf texts run_time build_time budget image
  pub text : IsTextOf bytes image
  pub own_strings : IsOfOwnStrings image

-- Bytes that are the text of an image that is built of class files are read as such an image.
abbrev pub IsReadAsBuilt : List ℕ → ImageTables → Type 0
IsReadAsBuilt bytes I =
    (texts : List (List ℕ)) (run_time build_time : Option (List ℕ)) (budget : ℕ)
    → IsBuiltText texts run_time build_time budget bytes → IsImageOf texts run_time build_time budget I
