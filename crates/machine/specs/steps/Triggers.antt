-- What another thread may hold that an instruction needs: a class, or a monitor that it enters.
use Rattle.std.specs.Prelude.{ℕ, ◌==◌, Bool, true, false, not, Option, Some, None}
use Rattle.vm_state.specs.declared.classes.Usability.{Usability}
use Rattle.vm_state.specs.declared.classes.Usability.TheVariants.{Ready, Fresh, Busy, Broken}
use Rattle.vm_state.specs.declared.frame.Frame.{Frame}
use Rattle.vm_state.specs.declared.frame.Activity.{Activity}
use Rattle.vm_state.specs.declared.frame.Activity.TheVariants.{Start, Method}
use Rattle.vm_state.specs.declared.object.Monitor.{Monitor as MonitorOf}
use Rattle.vm_state.specs.declared.object.Monitor.TheVariants.{Free, Owned}
use Rattle.vm_state.specs.declared.value.Name.{Name}
use Rattle.vm_state.specs.declared.value.Value.{Value}
use Rattle.vm_state.specs.SharedState.{SharedState, monitor_of, object_of}
use Rattle.vm_state.specs.Statics.{usable}
use Rattle.vm_state.specs.Values.{name_of}
use Rattle.program.specs.Tables.{Tables}
use Rattle.frame_instructions.specs.declared.operand_kind.OperandKind.TheVariants.{Reference}
use Rattle.frame_instructions.specs.OperandKinds.{top_as}
use Rattle.machine.specs.declared.call_operation.CallOperation.{CallOperation}
use Rattle.machine.specs.declared.call_operation.CallOperation.TheVariants as calls
use Rattle.machine.specs.declared.object_operation.ObjectOperation.{ObjectOperation}
use Rattle.machine.specs.declared.object_operation.ObjectOperation.TheVariants as objects
use Rattle.machine.specs.declared.waiting.Trigger.{Trigger}
use Rattle.machine.specs.declared.waiting.Trigger.TheVariants.{Nothing, Class, Monitor}
use Rattle.machine.specs.Operations.{Operation, GetStatic, PutStatic, OnCall, OnObject, operation_at}

-- ---- whether it is held

abbrev pub is_busy : Usability → Bool
is_busy Ready = false
is_busy Fresh = false
is_busy Busy = true
is_busy Broken = false

abbrev pub is_owned_by_other : ℕ → MonitorOf → Bool
is_owned_by_other t Free = false
is_owned_by_other t (Owned u depth) = not (t == u)

abbrev pub is_held : Trigger → ℕ → SharedState → Bool
is_held Nothing t sh = false
is_held (Class c) t sh = is_busy (usable t (sh.states c))
is_held (Monitor x) t sh = is_owned_by_other t (monitor_of (object_of sh x))

-- ---- what an instruction needs

abbrev pub named_trigger : Option Name → Trigger
named_trigger None = Nothing
named_trigger (Some x) = Monitor x

abbrev pub monitor_trigger : Option Value → Trigger
monitor_trigger None = Nothing
monitor_trigger (Some v) = named_trigger (name_of v)

abbrev pub object_trigger : ObjectOperation → Frame → Trigger
object_trigger (objects.NewGiven c) f = Class c
object_trigger objects.EnterMonitor f = monitor_trigger (top_as Reference f.operands)
object_trigger _ f = Nothing

abbrev pub call_trigger : CallOperation → Trigger
call_trigger (calls.Static k) = Class k.class
call_trigger _ = Nothing

abbrev pub operation_trigger : Operation → Frame → Trigger
operation_trigger (GetStatic c k) f = Class c
operation_trigger (PutStatic kind c k) f = Class c
operation_trigger (OnCall operation) f = call_trigger operation
operation_trigger (OnObject operation) f = object_trigger operation f
operation_trigger _ f = Nothing

abbrev pub fetched_trigger : Option Operation → Frame → Trigger
fetched_trigger None f = Nothing
fetched_trigger (Some operation) f = operation_trigger operation f

abbrev pub active_trigger : Tables → Activity → Frame → Trigger
active_trigger P (Start c) f = Class c
active_trigger P (Method c m) f = fetched_trigger (operation_at P c m f.place) f

abbrev pub trigger_of : Tables → Frame → Trigger
trigger_of P f = active_trigger P f.activity f
