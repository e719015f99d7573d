-- What an instruction may do beyond its frame, as far as code says before it runs (JVMS 5.5; 6.5).
use Rattle.std.specs.Prelude.{◌≡◌, ℕ, ◌<◌, Bool, true, false, Option, Some, None, Ok, Err, length, if◌then◌else◌}
use Rattle.std.specs.Option.{option_or}
use Rattle.std.specs.declared.result.Result.{Result}
use Rattle.built_in.specs.declared.class_id.ClassId.TheVariants as class_ids
use Rattle.built_in.specs.declared.method.BuiltInMethod.{BuiltInMethod}
use Rattle.built_in.specs.declared.method.BuiltInMethod.TheVariants as members
use Rattle.vm_state.specs.declared.ends.FaultKind.TheVariants as faults
use Rattle.bytecode.specs.declared.instruction.Instruction.{Instruction}
use Rattle.bytecode.specs.declared.instruction.Instruction.TheVariants as instructions
use Rattle.loading.specs.Families.{Family}
use Rattle.hierarchy.specs.declared.member.Method.{Method}
use Rattle.hierarchy.specs.declared.member.Method.TheVariants as methods
use Rattle.hierarchy.specs.declared.member.Unresolved.{Unresolved}
use Rattle.hierarchy.specs.Selection.{selected}
use Rattle.program.specs.declared.runtime_constant.FieldTarget.{FieldTarget}
use Rattle.program.specs.declared.runtime_constant.FieldTarget.TheVariants as targets
use Rattle.program.specs.declared.runtime_constant.MethodReference.{MethodReference}
use Rattle.program.specs.declared.runtime_constant.RuntimeConstant.{RuntimeConstant}
use Rattle.program.specs.declared.runtime_constant.RuntimeConstant.TheVariants as runtime
use Rattle.program.specs.declared.signature.Signature.{Signature}
use Rattle.program.specs.Fields.{has_value}
use Rattle.program.specs.MemberFlags.{is_final_field}
use Rattle.program.specs.Tables.{Tables, constant_at, signature_at, instruction_at}
use Rattle.machine.specs.CallReferences.{of_class, of_interface, of_either, has_values}
use Rattle.machine.specs.Operations.{Operation, GetStatic, PutStatic, OnCall, OnObject, Refused, operation_of}
use Rattle.machine.specs.declared.call_operation.CallOperation.{CallOperation}
use Rattle.machine.specs.declared.call_operation.CallOperation.TheVariants as calls
use Rattle.machine.specs.declared.call_operation.Choice.{Choice}
use Rattle.machine.specs.declared.call_operation.Choice.TheVariants as choices
use Rattle.machine.specs.declared.object_operation.ObjectOperation.{ObjectOperation}
use Rattle.machine.specs.declared.object_operation.ObjectOperation.TheVariants as objects
use Rattle.use_graph.specs.declared.callee.Callee.{Callee}
use Rattle.use_graph.specs.declared.callee.Callee.TheVariants as callees
use Rattle.use_graph.specs.declared.feature.Feature.{Feature}
use Rattle.use_graph.specs.declared.feature.Feature.TheVariants as features

-- ---- the class that an instruction needs to be initialized (JVMS 5.5)

abbrev pub needed_by_call : CallOperation → Option ℕ
needed_by_call (calls.Static call) = Some call.class
needed_by_call (calls.Instance call) = None
needed_by_call (calls.Print what line call) = None
needed_by_call (calls.EndLine call) = None

abbrev pub needed_on_object : ObjectOperation → Option ℕ
needed_on_object (objects.NewGiven c) = Some c
needed_on_object _ = None

-- `new` needs its class; getstatic, putstatic and invokestatic need the class that declares what they name
abbrev pub needed_by : Operation → Option ℕ
needed_by (GetStatic c k) = Some c
needed_by (PutStatic kind c k) = Some c
needed_by (OnCall call) = needed_by_call call
needed_by (OnObject operation) = needed_on_object operation
needed_by _ = None

-- ---- the methods of given classes that an instruction may call

abbrev pub found_callee : Option Method → Callee
found_callee None = callees.Nobody
found_callee (Some (methods.Given d k)) = callees.Exactly d k
found_callee (Some (methods.BuiltIn member)) = callees.Nobody

abbrev pub chosen_callee : Choice → Callee
chosen_callee (choices.Selected m) = callees.Selected m
chosen_callee (choices.Found found) = found_callee found

abbrev pub callee_of_call : CallOperation → Callee
callee_of_call (calls.Static call) = callees.Exactly call.class call.index
callee_of_call (calls.Instance call) = chosen_callee call.choice
callee_of_call (calls.Print what line call) = chosen_callee call.choice
callee_of_call (calls.EndLine call) = chosen_callee call.choice

-- An instruction that is a fault by what it names calls nothing.
abbrev pub callee_of : Operation → Callee
callee_of (OnCall call) = callee_of_call call
callee_of _ = callees.Nobody

-- Receivers are not checked, so a call that is selected may run what selection gives for any given class, interfaces
-- and abstract classes among them.
abbrev pub MayRunFor : Tables → Callee → ℕ → ℕ → Type 0
MayRunFor P callees.Nobody d k = ⊥
MayRunFor P (callees.Exactly e j) d k = (e ≡ d) × (j ≡ k)
MayRunFor P (callees.Selected m) d k =
    (e : ℕ) × (e < length P.family) × (selected P.family (class_ids.Given e) m ≡ Some (methods.Given d k))

-- ---- what is told of an instruction by itself

abbrev pub is_print : BuiltInMethod → Bool
is_print (members.Print what) = true
is_print (members.PrintLine what) = true
is_print members.EndLine = true
is_print _ = false

abbrev pub print_of : Result Method Unresolved → Option Feature
print_of (Ok (methods.BuiltIn member)) = if is_print member then Some features.Prints else None
print_of (Ok (methods.Given d k)) = None
print_of (Err why) = None

abbrev pub print_by : Option Signature → MethodReference → Option Feature
print_by None r = None
print_by (Some signature) r = if has_values signature then print_of r.target else None

-- a call that resolves to a method of PrintStream, also where it is a fault for another cause
abbrev pub called_print : Tables → ℕ → Option MethodReference → Option Feature
called_print P d None = None
called_print P d (Some r) = print_by (signature_at P d r.descriptor) r

abbrev pub written_field : Result FieldTarget Unresolved → Option Feature
written_field (Ok (targets.Static e number is_final place)) = Some (features.Writes e)
written_field (Ok (targets.Instance e place slot)) = Some (features.Writes e)
written_field (Ok targets.Out) = None
written_field (Err why) = None

abbrev pub read_field : Family → Result FieldTarget Unresolved → Option Feature
read_field family (Ok (targets.Static e number is_final place)) = if is_final then None else Some (features.Reads e)
read_field family (Ok (targets.Instance e place slot)) =
    if is_final_field family e place then None else Some (features.Reads e)
read_field family (Ok targets.Out) = None
read_field family (Err why) = None

-- putstatic and getstatic of what resolves to a field, also where it is a fault for another cause; getstatic of a final
-- field is nothing
abbrev pub written_by : Option RuntimeConstant → Option Feature
written_by (Some (runtime.Field kind target)) = if has_value kind then written_field target else None
written_by _ = None

abbrev pub read_by : Family → Option RuntimeConstant → Option Feature
read_by family (Some (runtime.Field kind target)) = if has_value kind then read_field family target else None
read_by family _ = None

-- by what its reference resolves to
abbrev pub resolved_feature : Tables → ℕ → Instruction → Option Feature
resolved_feature P d (instructions.GetStatic index) = read_by P.family (constant_at P d index)
resolved_feature P d (instructions.PutStatic index) = written_by (constant_at P d index)
resolved_feature P d (instructions.InvokeVirtual index) = called_print P d (of_class (constant_at P d index))
resolved_feature P d (instructions.InvokeInterface index) = called_print P d (of_interface (constant_at P d index))
resolved_feature P d (instructions.InvokeSpecial index) = called_print P d (of_either (constant_at P d index))
resolved_feature P d (instructions.InvokeStatic index) = called_print P d (of_either (constant_at P d index))
resolved_feature P d _ = None

abbrev pub feature_on_object : ObjectOperation → Option Feature
feature_on_object objects.Throw = Some features.Throws
feature_on_object objects.EnterMonitor = Some features.Locks
feature_on_object objects.ExitMonitor = Some features.Locks
feature_on_object _ = None

abbrev pub feature_of_call : CallOperation → Option Feature
feature_of_call (calls.Print what line call) = Some features.Prints
feature_of_call (calls.EndLine call) = Some features.Prints
feature_of_call (calls.Static call) = None
feature_of_call (calls.Instance call) = None

-- by what it does
abbrev pub operation_feature : Operation → Option Feature
operation_feature (OnCall call) = feature_of_call call
operation_feature (OnObject operation) = feature_on_object operation
operation_feature (Refused faults.Unsupported) = Some features.LeftOut
operation_feature (Refused faults.Missing) = Some features.Misses
operation_feature (Refused faults.Fault) = None
operation_feature _ = None

abbrev pub feature_if : Option Operation → Option Feature
feature_if None = None
feature_if (Some operation) = operation_feature operation

abbrev pub feature_of : Tables → ℕ → ℕ → Option Instruction → Option Feature
feature_of P d k None = None
feature_of P d k (Some i) = option_or (resolved_feature P d i) (feature_if (operation_of P d k (Some i)))

-- what is told of the instruction at a place of a method's body
abbrev pub feature_at : Tables → ℕ → ℕ → ℕ → Option Feature
feature_at P d k place = feature_of P d k (instruction_at P d k place)
