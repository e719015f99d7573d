-- What the code of a linked program says of each of its instructions before it runs, as bounds of the program.
use Rattle.std.specs.Prelude.{ℕ, Bool, true, false, Option, Some, None, option_map, is_some, if◌then◌else◌}
use Rattle.built_in.specs.declared.class_id.ClassId.{ClassId}
use Rattle.vm_state.specs.declared.frame.Activity.{Activity}
use Rattle.vm_state.specs.declared.frame.Activity.TheVariants.{Start, Method}
use Rattle.semantics.specs.Quiet.{is_final}
use Rattle.semantics.specs.Bounds.{Scope, nothing, Bounds}
use Rattle.hierarchy.specs.declared.member.Method.{Method as ResolvedMethod}
use Rattle.hierarchy.specs.declared.member.Method.TheVariants as methods
use Rattle.hierarchy.specs.Selection.{selected}
use Rattle.program.specs.Tables.{Tables, implementation_at, main_in}
use Rattle.machine.specs.Operations.{Operation, GetStatic, PutStatic, OnCall, OnObject, operation_at}
use Rattle.machine.specs.declared.call_operation.CallOperation.{CallOperation}
use Rattle.machine.specs.declared.call_operation.CallOperation.TheVariants as calls
use Rattle.machine.specs.declared.object_operation.ObjectOperation.{ObjectOperation}
use Rattle.machine.specs.declared.object_operation.ObjectOperation.TheVariants as objects
use Rattle.machine.specs.Linked.{program_of}
use Rattle.use_graph.specs.declared.callee.Callee.{Callee}
use Rattle.use_graph.specs.declared.callee.Callee.TheVariants as callees
use Rattle.use_graph.specs.Code.{needed_by, callee_of}

-- ---- what an operation does beyond its frame

-- the frame of a method, if a given class declares it
abbrev pub if_declared : Tables → ℕ → ℕ → Option Activity
if_declared P d k = if is_some (implementation_at P d k) then Some (Method d k) else None

-- the frame of a method of a given class
abbrev pub activity_of : Tables → Option ResolvedMethod → Option Activity
activity_of P None = None
activity_of P (Some (methods.Given d k)) = if_declared P d k
activity_of P (Some (methods.BuiltIn member)) = None

-- what is called for a receiver of a class
abbrev pub called_by : Tables → Callee → ClassId → Option Activity
called_by P callees.Nobody class = None
called_by P (callees.Exactly d k) class = if_declared P d k
called_by P (callees.Selected m) class = activity_of P (selected P.family class m)

abbrev pub writes_of : Operation → Option ℕ
writes_of (PutStatic kind c k) = Some c
writes_of _ = None

abbrev pub reads_of : Tables → Operation → Option ℕ
reads_of P (GetStatic c k) = if is_final (program_of P) c k then None else Some c
reads_of P _ = None

abbrev pub call_prints : CallOperation → Bool
call_prints (calls.Print what line call) = true
call_prints (calls.EndLine call) = true
call_prints (calls.Static call) = false
call_prints (calls.Instance call) = false

abbrev pub prints_by : Operation → Bool
prints_by (OnCall call) = call_prints call
prints_by _ = false

abbrev pub object_locks : ObjectOperation → Bool
object_locks objects.EnterMonitor = true
object_locks objects.ExitMonitor = true
object_locks _ = false

abbrev pub locks_by : Operation → Bool
locks_by (OnObject operation) = object_locks operation
locks_by _ = false

abbrev pub scope_of : Tables → Operation → Scope
scope_of P o = record {
  needs = needed_by o;
  calls = called_by P (callee_of o);
  writes = writes_of o;
  reads = reads_of P o;
  prints = prints_by o;
  locks = locks_by o;
}

abbrev pub scope_if : Tables → Option Operation → Scope
scope_if P None = nothing
scope_if P (Some o) = scope_of P o

-- ---- of each instruction

-- a thread's start needs its entry class, and calls the class's `main`
abbrev pub start_scope : Tables → ℕ → Scope
start_scope P c = record nothing { needs = Some c; calls = λ class. option_map (Method c) (main_in P c) }

abbrev pub bounds_of : Tables → Bounds
bounds_of P (Start c) place = start_scope P c
bounds_of P (Method d k) place = scope_if P (operation_at P d k place)
