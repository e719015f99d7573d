-- What an analysis says of code before it runs, when a program stays within that, and what may run and be used by it
-- when a class is initialized.
use Rattle.std.specs.Prelude.{◌≡◌, ◌≢◌, ◌⊎◌, ℕ, Bool, true, false, List, Option, Some, None}
use Rattle.std.specs.List.{Contains}
use Rattle.vm_state.specs.declared.value.Value.{Value}
use Rattle.vm_state.specs.declared.value.Name.{Name}
use Rattle.built_in.specs.declared.class_id.ClassId.{ClassId}
use Rattle.vm_state.specs.declared.frame.Frame.{Frame}
use Rattle.vm_state.specs.declared.frame.Activity.{Activity}
use Rattle.semantics.specs.Rows.{Move, Stays, Becomes, Calls, Returns, Outcome, Next, Raise, Halt, Row, Ends}
use Rattle.semantics.specs.Rows.{UseClass, ReadStatic, WriteStatic, AskClass, LookInto, Change}
use Rattle.semantics.specs.Rows.{Make, UseMonitor, Print}
use Rattle.semantics.specs.Programs.{Program}
use Rattle.semantics.specs.Quiet.{is_final}

-- ---- what is said of an instruction

-- What an instruction may do beyond its frame. How it ends a thread, or raises an exception, is not said.
pub record Scope : Type 0 where
  -- the class that it may need to be initialized (JVMS 5.5)
  pub needs : Option ℕ
  -- what it may call, or put in its own place, where its receiver is of this class; if it has none, for any class
  pub calls : ClassId → Option Activity
  -- the class of which it may write a static
  pub writes : Option ℕ
  -- the class of which it may read a static that is not final
  pub reads : Option ℕ
  pub prints : Bool
  -- it may enter or leave a monitor
  pub locks : Bool

-- an instruction that does nothing of this
abbrev pub nothing : Scope
nothing = record {
  needs = None;
  calls = λ class. None;
  writes = None;
  reads = None;
  prints = false;
  locks = false;
}

-- What is said of the instruction at each place of each activity.
abbrev pub Bounds : Type 0
Bounds = Activity → (place : ℕ) → Scope

abbrev pub MayCall : Scope → Activity → Type 0
MayCall scope a = (class : ClassId) × (scope.calls class ≡ Some a)

-- ---- a program within it

abbrev pub MovesWithin : Scope → Move → Type 0
MovesWithin scope (Stays place locals operands) = Unit {0}
MovesWithin scope (Becomes frame) = MayCall scope frame.activity
MovesWithin scope (Calls operands callee) = MayCall scope callee.activity
MovesWithin scope (Returns value) = Unit {0}

abbrev pub EndsWithin : Scope → Outcome → Type 0
EndsWithin scope (Next move) = MovesWithin scope move
EndsWithin scope (Raise x class) = Unit {0}
EndsWithin scope (Halt kind) = Unit {0}

-- Whatever is answered, a row does no more than is said of it.
abbrev pub IsInScope : Program → Scope → Row → Type 0
IsInScope P scope (Ends outcome) = EndsWithin scope outcome
IsInScope P scope (UseClass c next) = (scope.needs ≡ Some c) × ((b : Bool) → IsInScope P scope (next b))
IsInScope P scope (ReadStatic c f next) =
    (scope.needs ≡ Some c) × (is_final P c f ≡ false → scope.reads ≡ Some c)
    × ((v : Value) → IsInScope P scope (next v))
IsInScope P scope (WriteStatic c f v next) =
    (scope.needs ≡ Some c) × (scope.writes ≡ Some c) × IsInScope P scope next
IsInScope P scope (AskClass x next) = (o : Option ClassId) → IsInScope P scope (next o)
IsInScope P scope (LookInto x part next) = (o : Option (List Value)) → IsInScope P scope (next o)
IsInScope P scope (Change x i v next) = IsInScope P scope next
IsInScope P scope (Make class slots next) = (x : Name) → IsInScope P scope (next x)
IsInScope P scope (UseMonitor x enter next) = (scope.locks ≡ true) × ((b : Bool) → IsInScope P scope (next b))
IsInScope P scope (Print text next) = (scope.prints ≡ true) × IsInScope P scope next

-- What the machine owes.
pub record IsBounded (P : Program) (B : Bounds) : Type 0 where
  -- an instruction does no more than is said of its place
  pub row : (f : Frame) → IsInScope P (B f.activity f.place) (P.row f)
  -- a class's failing, and its failing by a parent, call nothing
  pub failing : (c : ℕ) (x : Name) → IsInScope P nothing (P.failing c x)
  pub orphaned : (c : ℕ) → IsInScope P nothing (P.orphaned c)

-- ---- what is said of a class

-- The activities that may run when a class is initialized: its class initialization method, and what those among them
-- may call.
pub data MayRun (P : Program) (B : Bounds) (c : ℕ) : Activity → Type 0 where
  Initializes : {f : Frame} → P.initializer c ≡ Some f → MayRun P B c f.activity
  Called : {a b : Activity} (place : ℕ) → MayRun P B c a → MayCall (B a place) b → MayRun P B c b

-- one of them may need a class
abbrev pub MayNeed : Program → Bounds → ℕ → ℕ → Type 0
MayNeed P B c d = (a : Activity) × (place : ℕ) × MayRun P B c a × ((B a place).needs ≡ Some d)

-- The classes that a class's initialization may use: those that are initialized before it, and those that may be needed
-- when its class initialization method runs; itself apart.
abbrev pub IsUse : Program → Bounds → ℕ → ℕ → Type 0
IsUse P B c d = (d ≢ c) × (Contains (P.parents c) d ⊎ MayNeed P B c d)

-- Nothing that may run bars a class from being initialized at build time.
pub record IsClean (P : Program) (B : Bounds) (c : ℕ) : Type 0 where
  pub prints : (a : Activity) (place : ℕ) → MayRun P B c a → (B a place).prints ≡ false
  pub locks : (a : Activity) (place : ℕ) → MayRun P B c a → (B a place).locks ≡ false
  -- no static of another class is written, or read unless it is final
  pub writes : (a : Activity) (place d : ℕ) → MayRun P B c a → (B a place).writes ≡ Some d → d ≡ c
  pub reads : (a : Activity) (place d : ℕ) → MayRun P B c a → (B a place).reads ≡ Some d → d ≡ c
