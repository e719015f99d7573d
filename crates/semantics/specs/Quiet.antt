-- What an initializer may do at build time. Such an instruction is quiet: it prints nothing, raises nothing, is no
-- fault and touches no monitor; it reads the statics of the initializer's class, or finals of a class in its
-- environment; it writes the statics of its class alone; it looks into and changes objects of its own making alone.
-- Of any object that it can name it may ask for the class and for what is fixed, and it may compare names.
use Rattle.std.specs.Prelude.{ℕ, ◌+◌, Bool, true, false, cond, List, length, Option, Some, None, ◌==◌, option_map}
use Rattle.std.specs.Prelude.{option_and_then, slice_get}
use Rattle.vm_state.specs.declared.value.Value.{Value}
use Rattle.vm_state.specs.declared.value.Maker.{Maker}
use Rattle.vm_state.specs.declared.value.Maker.TheVariants.{Class, Thread}
use Rattle.built_in.specs.declared.class_id.ClassId.{ClassId}
use Rattle.built_in.specs.declared.class_id.ClassId.TheVariants.{Given, BuiltIn, Array}
use Rattle.vm_state.specs.declared.classes.StaticField.{StaticField}
use Rattle.vm_state.specs.declared.frame.Frame.{Frame}
use Rattle.vm_state.specs.declared.object.Object.{Object}
use Rattle.vm_state.specs.SharedState.{Pool, Region, same_maker, with_field, with_slot, with_new, class_at}
use Rattle.semantics.specs.Rows.{Part, Slots, Length, Named, Move, Next, Raise, Halt, Row, Ends, UseClass, ReadStatic}
use Rattle.semantics.specs.Rows.{WriteStatic, AskClass, LookInto, Change, Make}
use Rattle.semantics.specs.Rows.{UseMonitor, Print, part_of, part_at}
use Rattle.semantics.specs.Programs.{Program}

-- The regions of other classes that an initializer may use.
abbrev pub Environment : Type 0
Environment = ℕ → Option Region

abbrev pub declared_final : Option StaticField → Bool
declared_final None = false
declared_final (Some field) = field.is_final

-- whether a static field is final (JVMS 4.5)
abbrev pub is_final : Program → ℕ → ℕ → Bool
is_final P c f = declared_final (slice_get (P.statics c) f)

-- the objects of a maker as c's initializer sees them, to ask for their class: its own, which are in this region, and
-- those of its environment
abbrev pub pool_seen : Environment → ℕ → Region → Maker → Option Pool
pool_seen env c own (Class d) = cond (d == c) (Some own.pool) (option_map (λ (r : Region). r.pool) (env d))
pool_seen env c own (Thread t) = None

-- how many elements a new object has, as an array (JVMS 6.5, newarray and anewarray)
abbrev pub elements_in : ClassId → List Value → ℕ
elements_in (Array type) slots = length slots
elements_in (Given c) slots = 0
elements_in (BuiltIn b) slots = 0

-- What a quiet instruction leaves: how its frame moves, the region of the initializer's class, and how many elements
-- of arrays were made.
pub record QuietMove : Type 0 where
  pub move : Move
  pub region : Region
  pub elements : ℕ

-- Why an initializer is refused.
pub data Refusal : Type 0 where
  -- an exception is raised, also one that would be caught
  Raised : Refusal
  -- an object is looked into or changed that another class made
  ForeignObject : Refusal
  -- the cost is above the budget
  OverBudget : Refusal
  -- the thread could not go on
  Faulted : Refusal

-- What stops an initializer at build time.
pub data Stop : Type 0 where
  Refused : (why : Refusal) → Stop
  -- what bars a class by its code alone: a print, a monitor, the static of another class, or a class that is not at
  -- hand
  Barred : Stop

-- What an instruction of an initializer is.
pub data Conduct : Type 0 where
  -- quiet, and leaves this
  Leaves : (move : QuietMove) → Conduct
  -- stopped, at its first failing check
  Stops : (stop : Stop) → Conduct

-- a part that may be looked at in any object at hand, where it is fixed
abbrev pub is_open : Part → Bool
is_open Slots = false
is_open Length = true
is_open Named = true

-- What is fixed of an object, so that it never changes: its length, as an array's (JLS 10.3), and as an Enum's its name
-- and ordinal, once its name is set (JLS 8.9).
abbrev pub fixed_of : Program → Part → Object → Option (List Value)
fixed_of P Slots o = None
fixed_of P Length o = part_of Length o.slots
fixed_of P Named o = cond (P.is_enum o.class) (part_of Named o.slots) None

abbrev pub fixed_at : Program → Part → Pool → ℕ → Option (List Value)
fixed_at P part p n = option_and_then (fixed_of P part) (p.at n)

-- goes on with what is at hand, or is barred where it is not
abbrev pub at_hand : {A : Type 0} → Option A → (A → Conduct) → Conduct
at_hand None go = Stops Barred
at_hand (Some a) go = go a

-- goes on with what is fixed of another class's object, which is refused where nothing is
abbrev pub if_fixed : Option (List Value) → (Option (List Value) → Conduct) → Conduct
if_fixed None go = Stops (Refused ForeignObject)
if_fixed (Some vs) go = go (Some vs)

-- A row of c's initializer, where c's region is so and so many elements were made so far.
abbrev pub quiet : Program → Environment → ℕ → Region → ℕ → Row → Conduct
quiet P env c own n (Ends (Next move)) = Leaves (record { move = move; region = own; elements = n })
quiet P env c own n (Ends (Raise x class)) = Stops (Refused Raised)
quiet P env c own n (Ends (Halt kind)) = Stops (Refused Faulted)
quiet P env c own n (UseClass d next) =
    cond (d == c) (quiet P env c own n (next true)) (at_hand (env d) (λ r. quiet P env c own n (next true)))
quiet P env c own n (ReadStatic d f next) =
    cond (d == c)
    (quiet P env c own n (next (own.fields f)))
    (at_hand (env d) (λ r. cond (is_final P d f) (quiet P env c own n (next (r.fields f))) (Stops Barred)))
quiet P env c own n (WriteStatic d f v next) = cond (d == c) (quiet P env c (with_field own f v) n next) (Stops Barred)
quiet P env c own n (AskClass x next) =
    at_hand (pool_seen env c own x.maker) (λ p. quiet P env c own n (next (class_at p x.number)))
quiet P env c own n (LookInto x part next) =
    cond (same_maker (Class c) x.maker)
    (quiet P env c own n (next (part_at part own.pool x.number)))
    (cond (is_open part)
    (at_hand (pool_seen env c own x.maker) (λ p.
    if_fixed (fixed_at P part p x.number) (λ vs. quiet P env c own n (next vs))))
    (Stops (Refused ForeignObject)))
quiet P env c own n (Change x i v next) =
    cond (same_maker (Class c) x.maker) (quiet P env c (record own { pool = with_slot own.pool x.number i v }) n next)
    (Stops (Refused ForeignObject))
quiet P env c own n (Make class slots next) =
    quiet P env c (record own { pool = with_new own.pool class slots }) (n + elements_in class slots)
    (next (record { maker = Class c; number = own.pool.count }))
quiet P env c own n (UseMonitor x enter next) = Stops Barred
quiet P env c own n (Print text next) = Stops Barred

-- the next instruction of a frame, alone
abbrev pub quiet_step : Program → Environment → ℕ → Frame → Region → Conduct
quiet_step P env c f own = quiet P env c own 0 (P.row f)
