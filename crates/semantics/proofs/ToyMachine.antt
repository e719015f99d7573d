-- A small machine with an instruction for each kind of access. It is there to test that what is asked of a program can
-- be met.
use Rattle.std.specs.Prelude.{ℕ, ℤ, pos, negsuc, ◌+◌, ◌==◌, Bool, true, false, not, ◌||◌, if◌then◌else◌, List, [], ◌∷◌}
use Rattle.std.specs.Prelude.{◌++◌, replicate}
use Rattle.std.specs.Prelude.{Option, Some, None, option_map, slice_get}
use Rattle.std.specs.Fmt.{signed_decimal}
use Rattle.vm_state.specs.declared.value.Value.{Value}
use Rattle.vm_state.specs.declared.value.Value.TheVariants.{Int, Long, Null, Text, OfClass, OfThread, Out}
use Rattle.vm_state.specs.declared.value.Name.{Name}
use Rattle.vm_state.specs.declared.value.Maker.TheVariants.{Class, Thread}
use Rattle.built_in.specs.declared.class_id.ClassId.{ClassId}
use Rattle.built_in.specs.declared.class_id.ClassId.TheVariants as ids
use Rattle.built_in.specs.declared.class_id.BuiltIn.{BuiltIn}
use Rattle.built_in.specs.declared.class_id.BuiltIn.TheVariants as classes
use Rattle.built_in.specs.declared.class_id.ElementType.TheVariants as elements
use Rattle.vm_state.specs.declared.classes.StaticField.{StaticField}
use Rattle.vm_state.specs.declared.ends.FaultKind.{FaultKind}
use Rattle.vm_state.specs.declared.ends.FaultKind.TheVariants.{Fault, Unsupported, Missing}
use Rattle.vm_state.specs.declared.frame.Frame.{Frame}
use Rattle.vm_state.specs.declared.frame.Activity.{Activity}
use Rattle.vm_state.specs.declared.frame.Activity.TheVariants.{Start, Method}
use Rattle.vm_state.specs.Values.{value_of}
use Rattle.vm_state.specs.Operands.{OperandStack, pushed, top, top_int, rest}
use Rattle.vm_state.specs.Locals.{held}
use Rattle.semantics.specs.Rows.{Move, Stays, Becomes, Calls, Returns, Next, Raise, Halt}
use Rattle.semantics.specs.Rows.{Row, Ends, UseClass, ReadStatic, WriteStatic}
use Rattle.semantics.specs.Rows.{AskClass, Part, Slots, Length, LookInto, Change, Make, UseMonitor, Print}
use Rattle.semantics.specs.Programs.{Program}
use Rattle.semantics.specs.Quiet.{declared_final}

-- ---- programs of the machine

-- Classes, fields, methods and local variables are given by numbers.
pub data Instruction : Type 0 where
  PushInt : (number : ℤ) → Instruction
  Load : (variable : ℕ) → Instruction
  GetStatic : (class field : ℕ) → Instruction
  PutStatic : (class field : ℕ) → Instruction
  New : (class : ℕ) → Instruction
  NewArray : Instruction
  GetField : (slot : ℕ) → Instruction
  PutField : (slot : ℕ) → Instruction
  ArrayLength : Instruction
  InvokeStatic : (class method : ℕ) → Instruction
  InvokeVirtual : (method : ℕ) → Instruction
  MonitorEnter : Instruction
  MonitorExit : Instruction
  Throw : Instruction
  PrintInt : Instruction
  Return : Instruction
  ReturnTop : Instruction

pub record Code : Type 0 where
  pub count : ℕ
  -- the instructions of a method
  pub body : ℕ → List Instruction
  -- how many places the operand stacks of a method's frames have
  pub room : ℕ → ℕ
  -- where a method goes on after an exception of this class at this place, if it has a handler for it
  pub handler : (method place : ℕ) → ClassId → Option ℕ
  -- the method that a call of a method leads to, for an object of this class
  pub selected : ClassId → (method : ℕ) → Option ℕ
  -- the fields of a new object of a class
  pub slots : ℕ → List Value
  pub statics : ℕ → List StaticField
  pub parents : ℕ → List ℕ
  -- the `main` of a class
  pub main : ℕ → Option ℕ
  -- the class initialization method of a class
  pub initializer : ℕ → Option ℕ
  -- the class whose class initialization method a method is
  pub initialized : (method : ℕ) → Option ℕ
  -- whether a class is an Error, or extends it
  pub is_error : ClassId → Bool

-- ---- parts of rows

abbrev pub halts : FaultKind → Row
halts kind = Ends (Halt kind)

-- a new exception
abbrev pub raises : BuiltIn → Row
raises class = Make (ids.BuiltIn class) [] (λ x. Ends (Raise x (ids.BuiltIn class)))

-- goes on with what is there, or stops where nothing is
abbrev pub needing : {A : Type 0} → FaultKind → Option A → (A → Row) → Row
needing kind None go = halts kind
needing kind (Some x) go = go x

-- goes on where a class is initialized, or raises an exception where that failed
abbrev pub with_class : ℕ → Row → Row
with_class c row = UseClass c (λ usable. if usable then row else raises classes.NoClassDefFoundError)

-- goes on after the instruction with these operands, or is a fault where there was no room for one
abbrev pub goes_on : Frame → Option OperandStack → Row
goes_on f None = halts Fault
goes_on f (Some s) = Ends (Next (Stays (f.place + 1) f.locals s))

-- the object that an operand refers to
abbrev pub on_object : Option Value → (Name → Row) → Row
on_object None go = halts Fault
on_object (Some Null) go = raises classes.NullPointerException
on_object (Some (OfClass c n)) go = go (record { maker = Class c; number = n })
on_object (Some (OfThread t n)) go = go (record { maker = Thread t; number = n })
on_object (Some (Int n)) go = halts Fault
on_object (Some (Long n)) go = halts Fault
on_object (Some (Text s)) go = halts Unsupported
on_object (Some Out) go = halts Unsupported

-- the value at a place of a part of an object
abbrev pub in_slot : Name → Part → ℕ → (Value → Row) → Row
in_slot x part i go = LookInto x part (λ o. needing Fault o (λ slots. needing Fault (slice_get slots i) go))

-- a length that is not negative
abbrev pub with_length : ℤ → (ℕ → Row) → Row
with_length (pos n) go = go n
with_length (negsuc n) go = raises classes.NegativeArraySizeException

-- ---- calls

abbrev pub initialized_by : Code → Activity → Option ℕ
initialized_by p (Start c) = None
initialized_by p (Method c m) = p.initialized m

abbrev pub method_frame : Code → List (Option Value) → ℕ → Frame
method_frame p locals m =
    record { activity = Method 0 m; place = 0; locals = locals; operands = record { free = p.room m; values = [] } }

-- a fault where the method is a class initialization method
abbrev pub unless_initializer : Option ℕ → Row → Row
unless_initializer None row = row
unless_initializer (Some c) row = halts Fault

-- a method's frame takes its place, or stands on its caller's
abbrev pub enters : Code → ℕ → List (Option Value) → (Frame → Move) → Row
enters p m locals how = unless_initializer (p.initialized m) (Ends (Next (how (method_frame p locals m))))

-- a call of the method that the class of an object selects, with the object in its first local variable
abbrev pub calls : Code → ℕ → Frame → Name → ClassId → Row
calls p m f x class =
    needing Missing (p.selected class m) (λ n. enters p n (Some (value_of x) ∷ []) (Calls (rest f.operands)))

-- ---- finals

abbrev pub is_of : Option ℕ → ℕ → Bool
is_of None c = false
is_of (Some d) c = d == c

-- a final is written by the class initialization method of its class alone
abbrev pub may_write : Code → Activity → ℕ → ℕ → Bool
may_write p activity c k = not (declared_final (slice_get (p.statics c) k)) || is_of (initialized_by p activity) c

-- ---- the instructions

abbrev pub int_array : ClassId
int_array = ids.Array (record { dimensions = 1; element = elements.Int })

abbrev pub instruction_row : Code → Instruction → Frame → Row
instruction_row p (PushInt n) f = goes_on f (pushed (Int n) f.operands)
instruction_row p (Load i) f = needing Fault (held (slice_get f.locals i)) (λ v. goes_on f (pushed v f.operands))
instruction_row p (GetStatic c k) f = with_class c (ReadStatic c k (λ v. goes_on f (pushed v f.operands)))
instruction_row p (PutStatic c k) f =
    if may_write p f.activity c k
    then with_class c (needing Fault (top f.operands) (λ v. WriteStatic c k v (goes_on f (Some (rest f.operands)))))
    else halts Fault
instruction_row p (New c) f =
    with_class c (Make (ids.Given c) (p.slots c) (λ x. goes_on f (pushed (value_of x) f.operands)))
instruction_row p NewArray f =
    needing Fault (top_int f.operands) (λ n. with_length n (λ count.
    Make int_array (replicate count (Int (pos 0))) (λ x. goes_on f (pushed (value_of x) (rest f.operands)))))
instruction_row p (GetField i) f =
    on_object (top f.operands) (λ x. in_slot x Slots i (λ v. goes_on f (pushed v (rest f.operands))))
instruction_row p (PutField i) f =
    needing Fault (top f.operands) (λ v. on_object (top (rest f.operands)) (λ x. in_slot x Slots i (λ old.
    Change x i v (goes_on f (Some (rest (rest f.operands)))))))
instruction_row p ArrayLength f =
    on_object (top f.operands) (λ x. in_slot x Length 0 (λ v. goes_on f (pushed v (rest f.operands))))
instruction_row p (InvokeStatic c m) f = with_class c (enters p m [] (Calls f.operands))
instruction_row p (InvokeVirtual m) f =
    on_object (top f.operands) (λ x. AskClass x (λ o. needing Fault o (calls p m f x)))
instruction_row p MonitorEnter f =
    on_object (top f.operands)
    (λ x. UseMonitor x true (λ done. if done then goes_on f (Some (rest f.operands)) else halts Unsupported))
instruction_row p MonitorExit f =
    on_object (top f.operands) (λ x. UseMonitor x false (λ done.
    if done then goes_on f (Some (rest f.operands)) else raises classes.IllegalMonitorStateException))
instruction_row p Throw f =
    on_object (top f.operands) (λ x. AskClass x (λ o. needing Fault o (λ class. Ends (Raise x class))))
instruction_row p PrintInt f =
    needing Fault (top_int f.operands) (λ n. Print (signed_decimal n ++ 10 ∷ []) (goes_on f (Some (rest f.operands))))
instruction_row p Return f = Ends (Next (Returns None))
instruction_row p ReturnTop f = needing Fault (top f.operands) (λ v. Ends (Next (Returns (Some v))))

-- ---- a thread's first frame, which `main` takes the place of

abbrev pub start_frame : ℕ → ℕ → Frame
start_frame c t =
    record { activity = Start c; place = 0; locals = []; operands = record { free = 0; values = OfThread t 0 ∷ [] } }

abbrev pub start_row : Code → ℕ → Frame → Row
start_row p c f =
    with_class c
    (needing Missing (p.main c) (λ m. needing Fault (top f.operands) (λ v. enters p m (Some v ∷ []) Becomes)))

-- ---- the row of a frame

abbrev pub active_row : Code → Activity → Frame → Row
active_row p (Start c) f = start_row p c f
active_row p (Method c m) f = needing Fault (slice_get (p.body m) f.place) (λ i. instruction_row p i f)

abbrev pub toy_row : Code → Frame → Row
toy_row p f = active_row p f.activity f

-- ---- exceptions

abbrev pub handler_in : Code → Activity → ℕ → ClassId → Option ℕ
handler_in p (Start c) place class = None
handler_in p (Method c m) place class = p.handler m place class

-- an exception that is no Error gets wrapped
abbrev pub fails_by : Code → Name → ClassId → Row
fails_by p x class =
    if p.is_error class
    then Ends (Raise x class)
    else Make (ids.BuiltIn classes.ExceptionInInitializerError) (value_of x ∷ [])
    (λ y. Ends (Raise y (ids.BuiltIn classes.ExceptionInInitializerError)))

-- ---- the whole

abbrev pub toy : Code → Program
toy p = record {
  count = p.count;
  row = toy_row p;
  handler = handler_in p;
  failing = λ c x. AskClass x (λ o. needing Fault o (fails_by p x));
  orphaned = λ c. raises classes.NoClassDefFoundError;
  initializer = λ c. option_map (method_frame p []) (p.initializer c);
  parents = p.parents;
  statics = p.statics;
  initializes = initialized_by p;
  is_enum = λ class. false;
  start = start_frame;
}
