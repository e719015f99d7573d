-- What a run of threads answers.
use Rattle.std.specs.Prelude.{◌≢◌, ℕ, ◌+◌, ◌<◌, ◌≤◌, List, Option, Result, Ok, Err, length, take}
use Rattle.std.specs.Io.KnownBytes.{Appends}
use Rattle.semantics.specs.Worlds.{World, Run, seen}
use Rattle.program.specs.Tables.{Tables}
use Rattle.machine.specs.Linked.{program_of}
use Rattle.init_engine.specs.Observations.{IsObservation}
use Rattle.init_engine.specs.Rests.{AllEnded, HasStep, IsStuck}
use Rattle.init_engine.specs.Schedules.{schedule_of}
use Rattle.vm_state.specs.Output.{text_of}
use Rattle.thread_runner.specs.declared.answer.Ended.{Ended}
use Rattle.thread_runner.specs.declared.answer.RunFault.{RunFault}
use Rattle.thread_runner.specs.declared.answer.RunFault.TheVariants.{Memory, Spawn, Device, Limit, Stuck}

-- the journal's run leads from the start to a world in which this is seen
pub record IsEnd (P : Tables) (start : World) (e : Ended) (last : World) : Type 0 where
  pub run : Run (program_of P) start (schedule_of e.journal) last
  pub observed : IsObservation e.seen (seen last)

-- the first n bytes of what some run printed have gone out
pub record IsBeginning (P : Tables) (start : World) (n : ℕ) (before after : Option (List ℕ)) : Type 0 where
  pub schedule : List ℕ
  pub last : World
  pub run : Run (program_of P) start schedule last
  pub within : n ≤ length (text_of last.shared.printed)
  pub sent : Appends before after (take n (text_of last.shared.printed))

-- the first prints of some run have gone out, each of them whole
pub record HavePrintsGoneOut (P : Tables) (start : World) (before after : Option (List ℕ)) : Type 0 where
  pub schedule : List ℕ
  pub last : World
  pub run : Run (program_of P) start schedule last
  pub count : ℕ
  pub within : count ≤ length last.shared.printed
  pub sent : Appends before after (text_of (take count last.shared.printed))

-- how many steps the journal of an end has
abbrev pub steps_in : Ended → ℕ
steps_in e = length (schedule_of e.journal)

-- a thread still has a step, and the journal has as many as it may
abbrev pub IsAtLimit : Tables → ℕ → Ended → World → Type 0
IsAtLimit P limit e last = (limit ≤ steps_in e) × (steps_in e < limit + 1024) × HasStep (program_of P) last

-- what an end tells of the world that its journal leads to, where the run is over
pub record HasEnded (P : Tables) (start : World) (e : Ended) (how : World → Type 0) (before after : Option (List ℕ))
    : Type 0 where
  pub last : World
  pub is_end : IsEnd P start e last
  pub over : how last
  pub sent : Appends before after (text_of last.shared.printed)

abbrev pub IsFault : Tables → World → ℕ → RunFault → Option (List ℕ) → Option (List ℕ) → ℕ → ℕ → Type 0
IsFault P start limit Memory before after failed failures = HavePrintsGoneOut P start before after
IsFault P start limit Spawn before after failed failures = HavePrintsGoneOut P start before after
IsFault P start limit (Device n) before after failed failures =
    IsBeginning P start n before after × (failures ≢ failed)
IsFault P start limit (Limit e) before after failed failures =
    HasEnded P start e (IsAtLimit P limit e) before after
IsFault P start limit (Stuck e) before after failed failures = HasEnded P start e (IsStuck (program_of P)) before after

-- Ok: all threads have ended. Limit: the journal has as many steps as it may, and a thread has a step. Stuck: no thread
-- has a step, and one has not ended. All that was printed has gone out then. Device: the first bytes of it. Memory and
-- Spawn: the first prints of it.
abbrev pub IsAnswer : Tables → World → ℕ → Result Ended RunFault → Option (List ℕ) → Option (List ℕ) → ℕ → ℕ → Type 0
IsAnswer P start limit (Ok e) before after failed failures = HasEnded P start e AllEnded before after
IsAnswer P start limit (Err fault) before after failed failures =
    IsFault P start limit fault before after failed failures
