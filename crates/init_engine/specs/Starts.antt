-- What a list of entries stands for, the start of a run from them, and why entries can't be run (JVMS 5.2).
use Rattle.std.specs.Prelude.{◌≡◌, ◌≢◌, ℕ, ◌<◌, ◌≤◌, List, [], length, take, Some, None, IsSome, slice_get}
use Rattle.std.specs.List.{AllZip}
use Rattle.classfile.specs.Units.{units_text}
use Rattle.loading.specs.Families.{IsFamily, name_in}
use Rattle.vm_state.specs.SharedState.{SharedState}
use Rattle.vm_state.specs.SharedTables.{SharedTables}
use Rattle.vm_state.specs.Shares.{shared_of}
use Rattle.semantics.specs.Programs.{Program}
use Rattle.semantics.specs.Worlds.{World, lazy_start, threads_from}
use Rattle.program.specs.Tables.{Tables, main_in}
use Rattle.machine.specs.Linked.{program_of}
use Rattle.init_engine.specs.declared.fault.EntryFault.{EntryFault}
use Rattle.init_engine.specs.declared.fault.EntryFault.TheVariants.{Unknown, NoMain, Count}

-- how many entries there may be
abbrev pub IsEntryCount : ℕ → Type 0
IsEntryCount n = (0 < n) × (n ≤ 64)

-- there are too few entries, or too many
pub data IsCountFault (n : ℕ) : EntryFault → Type 0 where
  none : n ≡ 0 → IsCountFault n Count
  many : 64 < n → IsCountFault n Count

-- the given class of an entry's name, which has a `main` of its own
pub record IsEntry (P : Tables) (name : List ℕ) (class : ℕ) : Type 0 where
  pub named : name_in P.family class ≡ Some (units_text name)
  pub main : IsSome (main_in P class)

-- the classes of some entries, in order
abbrev pub AreEntries : Tables → List (List ℕ) → List ℕ → Type 0
AreEntries P names classes = AllZip (IsEntry P) names classes

-- What a list of entries stands for: there are as many names as there may be, and these are the given classes of the
-- names, each with a `main` of its own.
pub record StandForEntries (P : Tables) (names : List (List ℕ)) (classes : List ℕ) : Type 0 where
  pub counted : IsEntryCount (length names)
  pub entries : AreEntries P names classes

-- Names stand for one list of classes.
abbrev pub OneListOfEntries : Type 0
OneListOfEntries =
    (P : Tables) → IsFamily P.family → (names : List (List ℕ)) (classes others : List ℕ)
    → StandForEntries P names classes → StandForEntries P names others → classes ≡ others

-- over some shared state a thread for each class is about to need it
abbrev pub start_over : Program → SharedState → List ℕ → World
start_over P shared classes = record { shared = shared; threads = threads_from P 0 classes }

-- the tables are what so many threads share in the lazy start
abbrev pub IsLazyShared : Tables → ℕ → SharedTables → Type 0
IsLazyShared P count shared =
    (classes : List ℕ) → length classes ≡ count → shared_of shared [] ≡ (lazy_start (program_of P) classes).shared

-- no class is initialized, and for each entry a thread is about to need the entry's class
pub record IsStart (P : Tables) (names : List (List ℕ)) (w : World) : Type 0 where
  pub classes : List ℕ
  pub entries : StandForEntries P names classes
  pub start : w ≡ lazy_start (program_of P) classes

-- what is wrong with the entry of a place: no given class has its name, or that class has no such `main` itself
pub data IsAtFault (P : Tables) (name : List ℕ) (place : ℕ) : EntryFault → Type 0 where
  unknown : ((c : ℕ) → name_in P.family c ≢ Some (units_text name)) → IsAtFault P name place (Unknown place)
  no_main : (c : ℕ) → name_in P.family c ≡ Some (units_text name) → main_in P c ≡ None
      → IsAtFault P name place (NoMain place)

-- the entry of a place is at fault in this way, and none before it is at fault
pub record IsFirstAtFault (P : Tables) (names : List (List ℕ)) (fault : EntryFault) : Type 0 where
  pub place : ℕ
  pub name : List ℕ
  pub before : List ℕ
  pub runnable : AreEntries P (take place names) before
  pub here : slice_get names place ≡ Some name
  pub wrong : IsAtFault P name place fault

-- why entries can't be run, but for want of memory: there are too few or too many, or the first of them that is at
-- fault
pub data EntriesFail (P : Tables) (names : List (List ℕ)) : EntryFault → Type 0 where
  count : {fault : EntryFault} → IsCountFault (length names) fault → EntriesFail P names fault
  first : {fault : EntryFault} → IsEntryCount (length names) → IsFirstAtFault P names fault
      → EntriesFail P names fault
