-- What goes out while a world runs.
use Rattle.std.specs.Prelude.{◌≡◌, ℕ, ◌≤◌, List, Option, Result, Ok, Err, length, take}
use Rattle.std.specs.Io.KnownBytes.{Appends}
use Rattle.vm_state.specs.Output.{Print, text_of}
use Rattle.semantics.specs.Worlds.{World, Run as Reaches, seen}
use Rattle.program.specs.Tables.{Tables}
use Rattle.machine.specs.Linked.{program_of}
use Rattle.init_engine.specs.Rests.{IsRest}
use Rattle.init_engine.specs.Rounds.{Turns}
use Rattle.init_engine.specs.Schedules.{AreRuns, schedule_of}
use Rattle.command_line.specs.declared.request.Request.{Request}
use Rattle.cli.specs.Begins.{IsFirst}
use Rattle.cli.specs.Files.{Contents}
use Rattle.cli.specs.declared.running.Ran.{Ran}
use Rattle.cli.specs.declared.running.RunFault.{RunFault}
use Rattle.cli.specs.declared.running.RunFault.TheVariants.{Memory, Device}
use Rattle.cli.specs.declared.status.Status.{Status}
use Rattle.cli.specs.declared.status.Status.TheVariants.{Refused}

-- how far the threads of a world have come, and whether it goes on
pub record IsStanding (P : Tables) (w : World) (ran : Ran) : Type 0 where
  pub threads : ran.threads.items ≡ (seen w).threads
  pub rest : IsRest (program_of P) w ran.rest

-- The turns of the threads of a world, of at most so many steps, came to a world whose text has gone out whole.
pub record HasRun (P : Tables) (first : World) (limit : ℕ) (before after : Option (List ℕ)) (ran : Ran) : Type 0 where
  pub last : World
  pub run : Reaches (program_of P) first (schedule_of ran.schedule.items) last
  pub turns : Turns (program_of P) (length first.threads) limit first (schedule_of ran.schedule.items) last
  pub apart : AreRuns ran.schedule.items
  pub stands : IsStanding P last ran
  pub sent : Appends before after (text_of last.shared.printed)

-- What has gone out of some prints where a run was cut short: the first of them, whole, where memory was refused, and
-- the first bytes of their text where the sink failed.
abbrev pub HaveGoneOut : List Print → Option (List ℕ) → Option (List ℕ) → RunFault → Type 0
HaveGoneOut printed before after Memory =
    (count : ℕ) × (count ≤ length printed) × Appends before after (text_of (take count printed))
HaveGoneOut printed before after Device =
    (count : ℕ) × (count ≤ length (text_of printed)) × Appends before after (take count (text_of printed))

-- A run from a world was cut short at a world of whose prints so much has gone out.
pub record IsCutShort (P : Tables) (first : World) (before after : Option (List ℕ)) (fault : RunFault) : Type 0 where
  pub schedule : List ℕ
  pub last : World
  pub run : Reaches (program_of P) first schedule last
  pub sent : HaveGoneOut last.shared.printed before after fault

-- what a call sent of a text: all of it, nothing for want of memory, or its first bytes where the sink failed
abbrev pub SendsTo : {A : Type 0} → Option (List ℕ) → Option (List ℕ) → List ℕ → Result A RunFault → Type 0
SendsTo before after text (Ok _) = Appends before after text
SendsTo before after text (Err Memory) = after ≡ before
SendsTo before after text (Err Device) = (count : ℕ) × (count ≤ length text) × Appends before after (take count text)

-- how a run was cut short that ends a command so: whole lines have gone out where it was refused, and else first bytes
abbrev pub cut_of : Status → RunFault
cut_of Refused = Memory
cut_of _ = Device

-- The first prints of a run have gone out, whole: a run from what a request asks for, of what files hold.
pub record IsOfRun (holds : Contents) (request : Request) (before after : Option (List ℕ)) : Type 0 where
  pub program : Tables
  pub first : World
  pub begun : IsFirst holds request program first
  pub cut : IsCutShort program first before after Memory
