-- The start of a run from an image (JVMS 5.2, 5.5).
use Rattle.std.specs.Prelude.{◌≡◌, ℕ, List}
use Rattle.semantics.specs.Worlds.{World}
use Rattle.semantics.specs.Images.{image_start}
use Rattle.machine.specs.Linked.{program_of}
use Rattle.object_graph.specs.Images.{ImageTables, start_image}
use Rattle.init_engine.specs.Starts.{StandForEntries}

-- The image's classes are initialized with their regions, and for each entry a thread is about to need the entry's
-- class.
pub record IsImageStart (I : ImageTables) (names : List (List ℕ)) (w : World) : Type 0 where
  pub classes : List ℕ
  pub entries : StandForEntries I.program names classes
  pub start : w ≡ image_start (program_of I.program) (start_image I) classes
