-- The first steps of a journal, and what the replay of an image by them shows.
use Rattle.std.specs.Prelude.{◌≡◌, ℕ, List, Option, Some, None, take}
use Rattle.program.specs.Programs.{IsProgram}
use Rattle.init_engine.specs.Schedules.{schedule_of}
use Rattle.journal.specs.Journals.{IsJournalOf}
use Rattle.image_runner.specs.Replays.{IsImageReplay}
use Rattle.cli.specs.declared.image_replay.ImageReplay.{ImageReplay}
use Rattle.cli.specs.ImageBuilds.{IsReadAsBuilt}
use Rattle.cli.specs.ImageRuns.{IsSomeTextOf}

-- A text spells a schedule, and these are the runs of its first steps, at most so many.
pub record SpellsFirst (steps : ℕ) (text : List ℕ) (runs : List (ℕ × ℕ)) : Type 0 where
  pub all : List (ℕ × ℕ)
  pub journal : IsJournalOf text all
  pub first : schedule_of runs ≡ take steps (schedule_of all)

-- the runs of the schedule that a text spells, or of its first steps, where their number is given
abbrev pub Spells : Option ℕ → List ℕ → List (ℕ × ℕ) → Type 0
Spells None text runs = IsJournalOf text runs
Spells (Some steps) text runs = SpellsFirst steps text runs

-- The image of these bytes, run from the entries of these names by the first steps of the journal of this text, leads
-- to where this is seen.
pub record IsReplayedTo (steps : ℕ) (bytes : List ℕ) (names : List (List ℕ)) (text : List ℕ) (replay : ImageReplay)
    : Type 0 where
  pub image : IsSomeTextOf bytes replay.image
  pub built : IsReadAsBuilt bytes replay.image
  pub program : IsProgram replay.image.program
  pub journal : SpellsFirst steps text replay.journal
  pub shown : IsImageReplay replay.image names replay.journal replay.seen
