-- Runs whose text went out, with their journals.
use Rattle.std.specs.Prelude.{◌≡◌, ℕ, ◌+◌, ◌<◌, ◌≤◌, ◌^◌, min, List, Bool, true, false, Option, Result, Ok, Err}
use Rattle.std.specs.Prelude.{length, ⊤}
use Rattle.std.specs.Io.KnownBytes.{Appends}
use Rattle.vm_state.specs.Output.{text_of}
use Rattle.semantics.specs.Worlds.{World, Run, seen}
use Rattle.program.specs.Tables.{Tables}
use Rattle.machine.specs.Linked.{program_of}
use Rattle.init_engine.specs.Rests.{IsRest}
use Rattle.init_engine.specs.Rounds.{Turns}
use Rattle.init_engine.specs.Schedules.{schedule_of}
use Rattle.init_engine.specs.declared.stuck.Rest.{Rest}
use Rattle.init_engine.specs.declared.stuck.Rest.TheVariants.{Going}
use Rattle.cli.specs.declared.by_threads.Journaled.{Journaled}
use Rattle.cli.specs.declared.fault.CommandFault.{CommandFault}
use Rattle.cli.specs.CommandFault.{refusal_status}
use Rattle.cli.specs.Running.{IsCutShort, cut_of}
use Rattle.cli.specs.Status.{run_status}

-- the greatest limit of a run by threads
abbrev pub limit_by_threads : ℕ → ℕ
limit_by_threads limit = min limit (2 ^ 62)

-- How far a run goes that may have so many steps. By turns: to where the turns of its threads end, of at most so many
-- steps. By threads, where a thread still has a step: to so many steps, and fewer than 1,024 more.
abbrev pub KeepsLimit : Bool → ℕ → Tables → World → List ℕ → World → Rest → Type 0
KeepsLimit true limit P first schedule last rest =
    Turns (program_of P) (length first.threads) limit first schedule last
KeepsLimit false limit P first schedule last Going =
    (limit_by_threads limit ≤ length schedule) × (length schedule < limit_by_threads limit + 1024)
KeepsLimit false limit P first schedule last _ = ⊤

-- The journal's run leads from a world to the one that is told, whose text has gone out whole. It is one by turns or by
-- threads, and ends at its limit if not before.
pub record IsJournaled (turns : Bool) (limit : ℕ) (P : Tables) (first : World) (before after : Option (List ℕ))
    (ran : Journaled) : Type 0 where
  pub last : World
  pub run : Run (program_of P) first (schedule_of ran.journal) last
  pub threads : ran.threads.items ≡ (seen last).threads
  pub rest : Rest
  pub stands : IsRest (program_of P) last rest
  pub keeps : KeepsLimit turns limit P first (schedule_of ran.journal) last rest
  pub status : ran.status ≡ run_status ran.threads.items rest
  pub sent : Appends before after (text_of last.shared.printed)

-- what a run comes to: it is told, or was cut short, where so much of what some run printed has gone out as its
-- refusal says
abbrev pub IsOutcome : Bool → ℕ → Tables → World → Option (List ℕ) → Option (List ℕ) → Result Journaled CommandFault
    → Type 0
IsOutcome turns limit P first before after (Ok ran) = IsJournaled turns limit P first before after ran
IsOutcome turns limit P first before after (Err refusal) =
    IsCutShort P first before after (cut_of (refusal_status refusal))
