-- An instruction's outcome, and what it changes, depend on its frame, which makes its row, and on the answers of its
-- accesses alone.
use Rattle.std.specs.Prelude.{◌≡◌, ℕ, Bool, true, false, List, [], ◌∷◌, Option}
use Rattle.vm_state.specs.declared.value.Value.{Value}
use Rattle.vm_state.specs.declared.value.Maker.{Maker}
use Rattle.vm_state.specs.declared.value.Name.{Name}
use Rattle.built_in.specs.declared.class_id.ClassId.{ClassId}
use Rattle.vm_state.specs.declared.ends.FaultKind.TheVariants.{Fault}
use Rattle.vm_state.specs.declared.object.Monitor.{Monitor}
use Rattle.vm_state.specs.declared.classes.Usability.{Usability}
use Rattle.vm_state.specs.declared.classes.Usability.TheVariants.{Ready, Fresh, Busy, Broken}
use Rattle.vm_state.specs.Statics.{usable}
use Rattle.vm_state.specs.SharedState.{SharedState, pool_of, set_pool, set_region, with_field, with_slot, with_new}
use Rattle.vm_state.specs.SharedState.{with_print, class_at}
use Rattle.semantics.specs.Rows as rows
use Rattle.semantics.specs.Rows.{Row, Outcome, Halt, Result, Lock, Blocked, Answered, lock_monitor}
use Rattle.semantics.specs.Rows.{part_at, run_row}
use Rattle.vm_state.specs.SharedState.{monitor_of, with_monitor}

-- ---- what a row is told, and what it does

pub data Answer : Type 0 where
  -- what a class's state is to the thread
  Finds : (state : Usability) → Answer
  Reads : (value : Value) → Answer
  IsOf : (class : Option ClassId) → Answer
  Sees : (slots : Option (List Value)) → Answer
  -- the name of a new object
  Names : (object : Name) → Answer
  -- what a monitor says, and is then; or the thread waits for it
  Locks : (lock : Lock) → Answer

pub data Change : Type 0 where
  Writes : (class field : ℕ) (value : Value) → Change
  Changes : (object : Name) (slot : ℕ) (value : Value) → Change
  Makes : (class : ClassId) (slots : List Value) → Change
  Sets : (object : Name) (monitor : Monitor) → Change
  Prints : (text : List ℕ) → Change

-- How a row ends by its answers, and what it does before.
pub data Transcript : Type 0 where
  Ends : (outcome : Outcome) (changes : List Change) → Transcript
  Needs : (class : ℕ) → Transcript
  Waits : Transcript
  -- the answers are not those of this row
  Mismatch : Transcript

-- ---- by the answers alone

abbrev pub after : Change → Transcript → Transcript
after d (Ends outcome changes) = Ends outcome (d ∷ changes)
after d (Needs c) = Needs c
after d Waits = Waits
after d Mismatch = Mismatch

abbrev pub by_state : Usability → ℕ → Transcript → Transcript → Transcript
by_state Ready c ready broken = ready
by_state Fresh c ready broken = Needs c
by_state Busy c ready broken = Waits
by_state Broken c ready broken = broken

abbrev pub by_lock : Lock → (Bool → Monitor → Transcript) → Transcript
by_lock Blocked go = Waits
by_lock (Answered done monitor) go = go done monitor

-- The transcript of a row to which these answers are given.
abbrev pub told : Row → List Answer → Transcript
told (rows.Ends outcome) more = Ends outcome []
told (rows.UseClass c next) (Finds u ∷ more) = by_state u c (told (next true) more) (told (next false) more)
told (rows.ReadStatic c f next) (Finds u ∷ Reads v ∷ more) = by_state u c (told (next v) more) (Ends (Halt Fault) [])
told (rows.WriteStatic c f v next) (Finds u ∷ more) =
    by_state u c (after (Writes c f v) (told next more)) (Ends (Halt Fault) [])
told (rows.AskClass x next) (IsOf o ∷ more) = told (next o) more
told (rows.LookInto x part next) (Sees o ∷ more) = told (next o) more
told (rows.Change x i v next) more = after (Changes x i v) (told next more)
told (rows.Make class slots next) (Names x ∷ more) = after (Makes class slots) (told (next x) more)
told (rows.UseMonitor x enter next) (Locks l ∷ more) = by_lock l (λ done m. after (Sets x m) (told (next done) more))
told (rows.Print text next) more = after (Prints text) (told next more)
told row more = Mismatch

-- ---- in a shared state

abbrev pub change_done : ℕ → Maker → SharedState → Change → SharedState
change_done t maker sh (Writes c f v) = set_region sh c (with_field (sh.regions c) f v)
change_done t maker sh (Changes x i v) = set_pool sh x.maker (with_slot (pool_of sh x.maker) x.number i v)
change_done t maker sh (Makes class slots) = set_pool sh maker (with_new (pool_of sh maker) class slots)
change_done t maker sh (Sets x m) = set_pool sh x.maker (with_monitor (pool_of sh x.maker) x.number m)
change_done t maker sh (Prints text) = with_print sh (record { thread = t; text = text })

abbrev pub changes_done : ℕ → Maker → SharedState → List Change → SharedState
changes_done t maker sh [] = sh
changes_done t maker sh (d ∷ ds) = changes_done t maker (change_done t maker sh d) ds

-- what a transcript leads to
abbrev pub enacted : ℕ → Maker → SharedState → Transcript → Result
enacted t maker sh (Ends outcome changes) = rows.Moved outcome (changes_done t maker sh changes)
enacted t maker sh (Needs c) = rows.Needs c
enacted t maker sh Waits = rows.Waits
enacted t maker sh Mismatch = rows.Waits

abbrev pub on_state : Usability → List Answer → List Answer → List Answer
on_state Ready ready broken = ready
on_state Fresh ready broken = []
on_state Busy ready broken = []
on_state Broken ready broken = broken

abbrev pub on_answer : Lock → (Bool → Monitor → List Answer) → List Answer
on_answer Blocked go = []
on_answer (Answered done monitor) go = go done monitor

-- the answers that a row gets in a shared state
abbrev pub answers : ℕ → Maker → SharedState → Row → List Answer
answers t maker sh (rows.Ends outcome) = []
answers t maker sh (rows.UseClass c next) =
    Finds (usable t (sh.states c))
    ∷ on_state (usable t (sh.states c)) (answers t maker sh (next true)) (answers t maker sh (next false))
answers t maker sh (rows.ReadStatic c f next) =
    Finds (usable t (sh.states c)) ∷ Reads ((sh.regions c).fields f)
    ∷ answers t maker sh (next ((sh.regions c).fields f))
answers t maker sh (rows.WriteStatic c f v next) =
    Finds (usable t (sh.states c)) ∷ answers t maker (change_done t maker sh (Writes c f v)) next
answers t maker sh (rows.AskClass x next) =
    IsOf (class_at (pool_of sh x.maker) x.number) ∷ answers t maker sh (next (class_at (pool_of sh x.maker) x.number))
answers t maker sh (rows.LookInto x part next) =
    Sees (part_at part (pool_of sh x.maker) x.number)
    ∷ answers t maker sh (next (part_at part (pool_of sh x.maker) x.number))
answers t maker sh (rows.Change x i v next) = answers t maker (change_done t maker sh (Changes x i v)) next
answers t maker sh (rows.Make class slots next) =
    Names (record { maker = maker; number = (pool_of sh maker).count })
    ∷ answers t maker (change_done t maker sh (Makes class slots))
    (next (record { maker = maker; number = (pool_of sh maker).count }))
answers t maker sh (rows.UseMonitor x enter next) =
    Locks (lock_monitor t enter (monitor_of ((pool_of sh x.maker).at x.number)))
    ∷ on_answer (lock_monitor t enter (monitor_of ((pool_of sh x.maker).at x.number)))
    (λ done m. answers t maker (change_done t maker sh (Sets x m)) (next done))
answers t maker sh (rows.Print text next) = answers t maker (change_done t maker sh (Prints text)) next

-- ---- the law

-- What a row leads to in a shared state is what it leads to by the answers that it gets there.
abbrev pub AnswersDecide : Type 0
AnswersDecide = (t : ℕ) (maker : Maker) (sh : SharedState) (row : Row) →
    run_row t maker sh row ≡ enacted t maker sh (told row (answers t maker sh row))
