-- What the parts of a run answer and refuse.
use Rattle.std.specs.Prelude.{◌≡◌, ◌⊎◌, ℕ, List, Result, IfErr, IfOk}
use Rattle.classfile.specs.ClassFile.{ClassFile}
use Rattle.classfile.specs.FirstFault.{FirstFault}
use Rattle.classfile.specs.declared.fault.ClassFault.{ClassFault}
use Rattle.loading.specs.Files.{LinkFails}
use Rattle.loading.specs.declared.fault.LinkFault.{LinkFault}
use Rattle.program.specs.Tables.{Tables}
use Rattle.init_engine.specs.Starts.{EntriesFail}
use Rattle.init_engine.specs.declared.fault.EntryFault.{EntryFault}
use Rattle.journal.specs.declared.fault.JournalFault.{JournalFault}
use Rattle.journal.specs.declared.fault.JournalFault.TheVariants as journals
use Rattle.image_runner.specs.declared.fault.ReplayFault.{ReplayFault}
use Rattle.image_runner.specs.declared.fault.ReplayFault.TheVariants as replays
use Rattle.cli.specs.declared.fault.CommandFault.{CommandFault}
use Rattle.cli.specs.declared.fault.CommandFault.TheVariants.{Class, Link, Entry, Memory, Text, Turn}
use Rattle.cli.specs.Runs.{IsFirstBad, IsProgramOf, NotLinked}

-- the text of a place is no class file
pub data IsBadAt (place : ℕ) (text : List ℕ) : CommandFault → Type 0 where
  bad : {fault : ClassFault} → FirstFault text fault → IsBadAt place text (Class place fault)

-- one of some texts is no class file, and none before it
pub data IsNoClassFile (texts : List (List ℕ)) : CommandFault → Type 0 where
  first : {place : ℕ} {fault : ClassFault} → IsFirstBad texts place fault → IsNoClassFile texts (Class place fault)

-- some class files make no program
pub data IsUnlinkable (files : List ClassFile) : CommandFault → Type 0 where
  unlinkable : {fault : LinkFault} → LinkFails files fault → IsUnlinkable files (Link fault)

-- some texts make a program, or it is told why not
pub record MakesProgram (texts : List (List ℕ)) (r : Result Tables CommandFault) : Type 0 where
  pub program : IfOk r (λ program. IsProgramOf texts program)
  pub refusal : IfErr r (λ refusal. (refusal ≡ Memory) ⊎ NotLinked texts refusal)

-- entries can't be run in a program
pub data IsRefusedEntry (P : Tables) (names : List (List ℕ)) : CommandFault → Type 0 where
  refused : {fault : EntryFault} → EntriesFail P names fault → IsRefusedEntry P names (Entry fault)

-- the refusal of a text that is no journal
abbrev pub journal_refusal : JournalFault → CommandFault
journal_refusal journals.Memory = Memory
journal_refusal (journals.Text line) = Text line

-- the refusal of a replay
abbrev pub replay_refusal : ReplayFault → CommandFault
replay_refusal replays.Memory = Memory
replay_refusal (replays.Entry fault) = Entry fault
replay_refusal (replays.Turn line) = Turn line
