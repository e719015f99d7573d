-- From an image's bytes to what a run by turns shows, or to why there is none.
use Rattle.std.specs.Prelude.{ℕ, List, length}
use Rattle.semantics.specs.Worlds.{World}
use Rattle.object_graph.specs.Images.{ImageTables}
use Rattle.image_format.specs.Images.{ImageText, SomeText}
use Rattle.image_parser.specs.ImageFaults.{ImageFails}
use Rattle.program.specs.Programs.{IsProgram}
use Rattle.image_parser.specs.declared.image_fault.ImageFault.{ImageFault}
use Rattle.image_writer.specs.ImageTexts.{told_of}
use Rattle.image_reader.specs.Starts.{IsImageStart}
use Rattle.init_engine.specs.Starts.{EntriesFail, IsEntryCount}
use Rattle.init_engine.specs.declared.fault.EntryFault.{EntryFault}
use Rattle.init_engine.specs.declared.fault.EntryFault.TheVariants.{Count}
use Rattle.cli.specs.declared.fault.CommandFault.{CommandFault}
use Rattle.cli.specs.declared.fault.CommandFault.TheVariants.{Image, Entry}
use Rattle.cli.specs.declared.lazy.Shown.{Shown}
use Rattle.cli.specs.Runs.{IsShownFrom}

-- the bytes are the text of the image
abbrev pub IsTextOf : List ℕ → ImageTables → Type 0
IsTextOf bytes I = ImageText bytes I.program.family (told_of I)

-- the bytes are a text of the image, of either version
abbrev pub IsSomeTextOf : List ℕ → ImageTables → Type 0
IsSomeTextOf bytes I = SomeText bytes I.program.family (told_of I)

-- what is seen after the turns of a thread for each entry, of at most so many steps, from the start of the image
pub record IsShownFromImage (I : ImageTables) (names : List (List ℕ)) (limit : ℕ) (shown : Shown) : Type 0 where
  pub first : World
  pub start : IsImageStart I names first
  pub turns : IsShownFrom I.program first limit shown

-- Why there is no run, but for want of memory: there are too few or too many entries; the bytes are no image; or the
-- entries can't be run in it.
pub data IsNoRun (bytes : List ℕ) (names : List (List ℕ)) : CommandFault → Type 0 where
  count : (¬ IsEntryCount (length names)) → IsNoRun bytes names (Entry Count)
  image : {fault : ImageFault} → IsEntryCount (length names) → ImageFails bytes fault
      → IsNoRun bytes names (Image fault)
  entry : (I : ImageTables) {fault : EntryFault} → IsEntryCount (length names) → IsProgram I.program
      → IsSomeTextOf bytes I → EntriesFail I.program names fault → IsNoRun bytes names (Entry fault)
