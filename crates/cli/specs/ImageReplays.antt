-- From an image's bytes and a journal's text to what the image's replay by that journal shows, or to why there is none.
use Rattle.std.specs.Prelude.{ℕ, List}
use Rattle.semantics.specs.Worlds.{World}
use Rattle.program.specs.Programs.{IsProgram}
use Rattle.machine.specs.Linked.{program_of}
use Rattle.object_graph.specs.Images.{ImageTables}
use Rattle.image_parser.specs.ImageFaults.{ImageFails}
use Rattle.image_parser.specs.declared.image_fault.ImageFault.{ImageFault}
use Rattle.init_engine.specs.Starts.{EntriesFail}
use Rattle.init_engine.specs.declared.fault.EntryFault.{EntryFault}
use Rattle.journal.specs.Journals.{IsFirstFault, IsJournalOf}
use Rattle.thread_runner.specs.Replays.{IsReplay, IsTurnFault}
use Rattle.image_runner.specs.Replays.{IsImageReplay}
use Rattle.image_runner.specs.Runs.{IsFromStart}
use Rattle.command_line.specs.declared.request.Replay.{Replay}
use Rattle.cli.specs.declared.fault.CommandFault.{CommandFault}
use Rattle.cli.specs.declared.fault.CommandFault.TheVariants.{Image, Text, Entry, Turn}
use Rattle.cli.specs.declared.image_replay.ImageReplay.{ImageReplay}
use Rattle.cli.specs.Begins.{IsBegunFromImage}
use Rattle.cli.specs.Files.{AreBytesOf, Contents}
use Rattle.cli.specs.FirstSteps.{Spells}
use Rattle.cli.specs.ImageBuilds.{IsReadAsBuilt}
use Rattle.cli.specs.ImageRuns.{IsSomeTextOf}

-- The image of these bytes, run from the entries of these names by the journal of this text, leads to where this is
-- seen.
pub record IsReplayed (bytes : List ℕ) (names : List (List ℕ)) (text : List ℕ) (replay : ImageReplay) : Type 0 where
  pub image : IsSomeTextOf bytes replay.image
  pub built : IsReadAsBuilt bytes replay.image
  pub program : IsProgram replay.image.program
  pub journal : IsJournalOf text replay.journal
  pub shown : IsImageReplay replay.image names replay.journal replay.seen

-- Why there is no replay, but for want of memory, in the order in which it is told: the bytes are no image; the text is
-- no journal; the entries can't be run in the image; or the journal has no run from its start.
pub data IsNoReplay (bytes : List ℕ) (names : List (List ℕ)) (text : List ℕ) : CommandFault → Type 0 where
  image : {fault : ImageFault} → ImageFails bytes fault → IsNoReplay bytes names text (Image fault)
  journal : (I : ImageTables) {line : ℕ} → IsSomeTextOf bytes I → IsFirstFault text line
      → IsNoReplay bytes names text (Text line)
  entry : (I : ImageTables) {runs : List (ℕ × ℕ)} {fault : EntryFault} → IsProgram I.program → IsSomeTextOf bytes I
      → IsJournalOf text runs → EntriesFail I.program names fault → IsNoReplay bytes names text (Entry fault)
  turn : (I : ImageTables) {runs : List (ℕ × ℕ)} {line : ℕ} → IsProgram I.program → IsSomeTextOf bytes I
      → IsJournalOf text runs → IsFromStart I names (λ first. IsTurnFault (program_of I.program) first runs line)
      → IsNoReplay bytes names text (Turn line)

-- The image that one file holds, run from the entries of the words by the journal that another file holds, or by its
-- first steps, leads to where this is seen.
pub record IsReplayOf (holds : Contents) (words : Replay) (replay : ImageReplay) : Type 0 where
  pub first : World
  pub begun : IsBegunFromImage holds words.image.now words.entries.now replay.image first
  pub bytes : List ℕ
  pub held : AreBytesOf (holds words.journal.now) bytes
  pub journal : Spells words.at bytes replay.journal
  pub shown : IsReplay (program_of replay.image.program) first replay.journal replay.seen
