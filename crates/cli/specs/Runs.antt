-- From class files' bytes to what a run by turns shows, or to why there is none.
use Rattle.std.specs.Prelude.{◌≡◌, ℕ, List, Vec, length, map, take, Some, slice_get}
use Rattle.std.specs.List.{AllZip}
use Rattle.classfile.specs.ClassFile.{ClassFile}
use Rattle.classfile.specs.Class.{IsClassText}
use Rattle.classfile.specs.FirstFault.{FirstFault}
use Rattle.classfile.specs.declared.fault.ClassFault.{ClassFault}
use Rattle.loading.specs.Families.{IsFamilyOf}
use Rattle.loading.specs.Files.{LinkFails, Links}
use Rattle.loading.specs.declared.fault.LinkFault.{LinkFault}
use Rattle.semantics.specs.Worlds.{World, Run, seen}
use Rattle.program.specs.Tables.{Tables}
use Rattle.program.specs.Programs.{HasOwnStrings, IsProgram}
use Rattle.machine.specs.Linked.{program_of}
use Rattle.init_engine.specs.Observations.{IsObservation}
use Rattle.init_engine.specs.Rests.{IsRest}
use Rattle.init_engine.specs.Rounds.{Turns}
use Rattle.init_engine.specs.Schedules.{schedule_of}
use Rattle.init_engine.specs.Starts.{IsEntryCount, IsStart, EntriesFail}
use Rattle.init_engine.specs.declared.fault.EntryFault.{EntryFault}
use Rattle.init_engine.specs.declared.fault.EntryFault.TheVariants.{Count}
use Rattle.cli.specs.declared.fault.CommandFault.{CommandFault}
use Rattle.cli.specs.declared.fault.CommandFault.TheVariants.{Class, Link, Entry}
use Rattle.cli.specs.declared.lazy.Shown.{Shown}

-- what some files hold
abbrev pub texts_of : {A : Type 0} → List (Vec ℕ A) → List (List ℕ)
texts_of {A} files = map (λ (f : Vec ℕ A). f.items) files

-- the class files that some texts are, in order
abbrev pub AreClassFiles : List (List ℕ) → List ClassFile → Type 0
AreClassFiles texts files = AllZip IsClassText texts files

-- a linked program of the class files that these texts are, of which nothing is wrong, with no strings but theirs
pub record IsProgramOf (texts : List (List ℕ)) (P : Tables) : Type 0 where
  pub files : List ClassFile
  pub are : AreClassFiles texts files
  pub links : Links files
  pub family : IsFamilyOf files P.family
  pub program : IsProgram P
  pub own_strings : HasOwnStrings P

-- what is seen after the turns of the threads of a world, of at most so many steps
pub record IsShownFrom (P : Tables) (first : World) (limit : ℕ) (shown : Shown) : Type 0 where
  pub last : World
  pub run : Run (program_of P) first (schedule_of shown.schedule.items) last
  pub turns : Turns (program_of P) (length first.threads) limit first (schedule_of shown.schedule.items) last
  pub seen : IsObservation shown.seen (seen last)
  pub rest : IsRest (program_of P) last shown.rest

-- what is seen after the turns of a thread for each entry, of at most so many steps
pub record IsShown (P : Tables) (names : List (List ℕ)) (limit : ℕ) (shown : Shown) : Type 0 where
  pub first : World
  pub start : IsStart P names first
  pub turns : IsShownFrom P first limit shown

-- the first text that is no class file, by its place and the first rule that it breaks
pub record IsFirstBad (texts : List (List ℕ)) (place : ℕ) (fault : ClassFault) : Type 0 where
  pub before : List ClassFile
  pub well : AreClassFiles (take place texts) before
  pub text : List ℕ
  pub here : slice_get texts place ≡ Some text
  pub breaks : FirstFault text fault

-- why texts make no program, but for want of memory: one is no class file, or the class files do not link
pub data NotLinked (texts : List (List ℕ)) : CommandFault → Type 0 where
  class : {place : ℕ} {fault : ClassFault} → IsFirstBad texts place fault → NotLinked texts (Class place fault)
  link : {files : List ClassFile} {fault : LinkFault} → AreClassFiles texts files → LinkFails files fault
      → NotLinked texts (Link fault)

-- Why there is no run, but for want of memory: there are too few or too many entries; the texts make no program; or the
-- entries can't be run in it.
pub data IsRefused (bytes names : List (List ℕ)) : CommandFault → Type 0 where
  count : (¬ IsEntryCount (length names)) → IsRefused bytes names (Entry Count)
  unlinked : {refusal : CommandFault} → IsEntryCount (length names) → NotLinked bytes refusal
      → IsRefused bytes names refusal
  entry : {P : Tables} {fault : EntryFault} → IsEntryCount (length names) → IsProgramOf bytes P
      → EntriesFail P names fault → IsRefused bytes names (Entry fault)
