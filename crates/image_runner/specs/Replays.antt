-- What a replay of an image answers.
use Rattle.std.specs.Prelude.{ℕ, List}
use Rattle.machine.specs.Linked.{program_of}
use Rattle.object_graph.specs.Images.{ImageTables}
use Rattle.init_engine.specs.Starts.{EntriesFail}
use Rattle.init_engine.specs.declared.fault.EntryFault.{EntryFault}
use Rattle.init_engine.specs.declared.world.Seen.{Seen}
use Rattle.thread_runner.specs.Replays.{IsReplay, IsTurnFault}
use Rattle.image_runner.specs.Runs.{IsFromStart}
use Rattle.image_runner.specs.declared.fault.ReplayFault.{ReplayFault}
use Rattle.image_runner.specs.declared.fault.ReplayFault.TheVariants.{Entry, Turn}

-- The journal's run leads from the image's start to a world in which this is seen.
abbrev pub IsImageReplay : ImageTables → List (List ℕ) → List (ℕ × ℕ) → Seen → Type 0
IsImageReplay I names runs seen = IsFromStart I names (λ first. IsReplay (program_of I.program) first runs seen)

-- Why a journal is not replayed, but for want of memory: the entries can't be run, or the journal has no run from the
-- image's start, and this is the first line that has none.
pub data ImageReplayFails (I : ImageTables) (names : List (List ℕ)) (runs : List (ℕ × ℕ)) : ReplayFault → Type 0 where
  entry : {fault : EntryFault} → EntriesFail I.program names fault → ImageReplayFails I names runs (Entry fault)
  turn : {line : ℕ} → IsFromStart I names (λ first. IsTurnFault (program_of I.program) first runs line)
      → ImageReplayFails I names runs (Turn line)
