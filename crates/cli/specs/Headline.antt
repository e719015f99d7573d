-- The headline: whatever an image has shown so far under some schedule, its class files show under some schedule of the
-- lazy procedure (JVMS 5.5), and conversely, for every list of entries.
use Rattle.std.specs.Prelude.{◌≡◌, ◌↔◌, ◌⊎◌, ℕ, List}
use Rattle.semantics.specs.Worlds.{Observation, Shows, World}
use Rattle.machine.specs.Linked.{program_of}
use Rattle.object_graph.specs.Images.{ImageTables}
use Rattle.init_engine.specs.Starts.{EntriesFail, IsStart}
use Rattle.init_engine.specs.declared.fault.EntryFault.{EntryFault}
use Rattle.image_reader.specs.Starts.{IsImageStart}

-- ---- what shows

-- What the class files show from some entries, under some schedule of the lazy procedure, a run from the image shows
-- from the same entries under some schedule.
abbrev pub ClassFilesToImage : ImageTables → Type 0
ClassFilesToImage I = (names : List (List ℕ)) (lazy image : World) (s : Observation) → IsStart I.program names lazy
    → IsImageStart I names image → Shows (program_of I.program) lazy s → Shows (program_of I.program) image s

-- What a run from the image shows from some entries, under some schedule, the class files show from the same entries
-- under some schedule of the lazy procedure.
abbrev pub ImageToClassFiles : ImageTables → Type 0
ImageToClassFiles I = (names : List (List ℕ)) (lazy image : World) (s : Observation) → IsStart I.program names lazy
    → IsImageStart I names image → Shows (program_of I.program) image s → Shows (program_of I.program) lazy s

-- From any entries an image and its class files show the same.
pub record ShowsTheSame (I : ImageTables) : Type 0 where
  pub to_image : ClassFilesToImage I
  pub to_class_files : ImageToClassFiles I

-- ---- entries

-- Both runs start from these entries, each in one world, and the entries have no fault.
pub record BothStart (I : ImageTables) (names : List (List ℕ)) : Type 0 where
  pub lazy : World
  pub image : World
  pub lazily : (w : World) → IsStart I.program names w ↔ (w ≡ lazy)
  pub from_image : (w : World) → IsImageStart I names w ↔ (w ≡ image)
  pub no_fault : (fault : EntryFault) → ¬ EntriesFail I.program names fault

-- Neither starts, and the entries have one fault.
pub record NeitherStarts (I : ImageTables) (names : List (List ℕ)) : Type 0 where
  pub fault : EntryFault
  pub one_fault : (other : EntryFault) → EntriesFail I.program names other ↔ (other ≡ fault)
  pub lazily : (w : World) → ¬ IsStart I.program names w
  pub from_image : (w : World) → ¬ IsImageStart I names w

-- Each list of entries is taken by the lazy procedure and by a run from the image, or refused by both alike.
abbrev pub TakesTheSameEntries : ImageTables → Type 0
TakesTheSameEntries I = (names : List (List ℕ)) → BothStart I names ⊎ NeitherStarts I names
