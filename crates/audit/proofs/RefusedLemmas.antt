-- What ends its thread by what it names is told so, whatever else may be told of such an instruction.
use Rattle.std.proofs.Common.{◌≡◌, ◌∙◌, refl, ap, ℕ, Bool, true, false, cond, Option, Some, None, Ok, Err}
use Rattle.std.specs.declared.result.Result.{Result}
use Rattle.std.specs.Option.{option_or}
use Rattle.bytecode.specs.declared.instruction.Instruction.{Instruction}
use Rattle.bytecode.specs.declared.instruction.Instruction.TheVariants as instructions
use Rattle.vm_state.specs.declared.ends.FaultKind.{FaultKind}
use Rattle.vm_state.specs.declared.ends.FaultKind.TheVariants as faults
use Rattle.hierarchy.specs.declared.member.Method.{Method}
use Rattle.hierarchy.specs.declared.member.Method.TheVariants as methods
use Rattle.hierarchy.specs.declared.member.Unresolved.{Unresolved}
use Rattle.program.specs.declared.runtime_constant.FieldKind.{FieldKind}
use Rattle.program.specs.declared.runtime_constant.FieldKind.TheVariants as kinds
use Rattle.program.specs.declared.runtime_constant.FieldTarget.{FieldTarget}
use Rattle.program.specs.declared.runtime_constant.FieldTarget.TheVariants as targets
use Rattle.program.specs.declared.runtime_constant.MethodReference.{MethodReference}
use Rattle.program.specs.declared.runtime_constant.RuntimeConstant.{RuntimeConstant}
use Rattle.program.specs.declared.runtime_constant.RuntimeConstant.TheVariants as runtime
use Rattle.program.specs.declared.signature.Signature.{Signature}
use Rattle.program.specs.Fields.{has_value}
use Rattle.program.specs.Tables.{Tables, constant_at, signature_at, instruction_at}
use Rattle.frame_instructions.specs.Families.{Local as LocalOperation}
use Rattle.frame_instructions.specs.Instructions.{local_of}
use Rattle.machine.specs.declared.call_operation.CallOperation.{CallOperation}
use Rattle.machine.specs.CallReferences.{of_class, of_interface, of_either, has_values, if_signed, static_callee}
use Rattle.machine.specs.CallReferences.{static_reference, virtual_callee, virtual_reference, special_callee}
use Rattle.machine.specs.CallReferences.{special_reference}
use Rattle.machine.specs.Operations.{Operation, PutStatic, Refused, may_write, if_valued, get_target}
use Rattle.machine.specs.Operations.{getstatic_of}
use Rattle.machine.specs.Operations.{put_target, putstatic_of, on_call, resolved_operation, local_or, operation_of}
use Rattle.machine.specs.Operations.{operation_at}
use Rattle.use_graph.specs.declared.feature.Feature.{Feature}
use Rattle.use_graph.specs.declared.feature.Feature.TheVariants as features
use Rattle.use_graph.specs.Code.{print_of, print_by, called_print, written_field, read_field, written_by, read_by}
use Rattle.use_graph.specs.Code.{resolved_feature, operation_feature, feature_of, feature_at}
use Rattle.audit.specs.Places.{end_of}
use Rattle.audit.specs.Ends.{IsLack, Unsupported, Missing}

module _ (P : Tables) (kind : FaultKind) (lack : IsLack kind) where
  -- a thread does not end as a fault where it lacks something
  no_fault : {k : FaultKind} → IsLack k → Refused faults.Fault ≡ Refused k → ⊥
  no_fault Unsupported e = cc
  no_fault Missing e = cc

  -- ---- fields

  valued : (k : FieldKind) (o : Operation) (t : Option Feature) → (o ≡ Refused kind → t ≡ None)
      → if_valued k o ≡ Refused kind → cond (has_value k) t None ≡ None
  valued kinds.Boolean o t on e = on e
  valued kinds.Byte o t on e = on e
  valued kinds.Char o t on e = on e
  valued kinds.Short o t on e = on e
  valued kinds.Int o t on e = on e
  valued kinds.Long o t on e = on e
  valued kinds.Float o t on e = refl
  valued kinds.Double o t on e = refl
  valued kinds.Reference o t on e = on e

  unread : (target : Result FieldTarget Unresolved) → get_target target ≡ Refused kind
      → read_field P.family target ≡ None
  unread (Ok (targets.Static c k final place)) e = absurd cc
  unread (Ok (targets.Instance c k slot)) e = absurd (no_fault lack e)
  unread (Ok targets.Out) e = absurd cc
  unread (Err why) e = refl

  unread_constant : (o : Option RuntimeConstant) → getstatic_of o ≡ Refused kind → read_by P.family o ≡ None
  unread_constant (Some (runtime.Field k target)) e =
      valued k (get_target target) (read_field P.family target) (unread target) e
  unread_constant other e = refl

  module _ (d m : ℕ) where
    unwritten : (k : FieldKind) (target : Result FieldTarget Unresolved) → put_target P d m k target ≡ Refused kind
        → written_field target ≡ None
    unwritten k (Ok (targets.Static c j final place)) e = by (may_write P d m c final) e
      where
        by : (b : Bool) → cond b (PutStatic k c j) (Refused faults.Fault) ≡ Refused kind
            → Some (features.Writes c) ≡ None
        by true h = absurd cc
        by false h = absurd (no_fault lack h)
    unwritten k (Ok (targets.Instance c j slot)) e = absurd (no_fault lack e)
    unwritten k (Ok targets.Out) e = refl
    unwritten k (Err why) e = refl

    unwritten_constant : (o : Option RuntimeConstant) → putstatic_of P d m o ≡ Refused kind → written_by o ≡ None
    unwritten_constant (Some (runtime.Field k target)) e =
        valued k (put_target P d m k target) (written_field target) (unwritten k target) e
    unwritten_constant other e = refl

    -- ---- calls

    -- no print of a call by a descriptor is told, where the call of it ends so
    signed : (s : Option Signature) (r : MethodReference) (call : Result CallOperation FaultKind)
        → (on_call call ≡ Refused kind → print_of r.target ≡ None) → on_call (if_signed s call) ≡ Refused kind
        → print_by s r ≡ None
    signed None r call on e = refl
    signed (Some s) r call on e = by (has_values s) e
      where
        by : (b : Bool) → on_call (cond b call (Err faults.Unsupported)) ≡ Refused kind
            → cond b (print_of r.target) None ≡ None
        by true h = on h
        by false h = refl

    unprinted_virtual : (r : MethodReference) (t : Result Method Unresolved)
        → on_call (virtual_callee P d r t) ≡ Refused kind → print_of t ≡ None
    unprinted_virtual r (Ok (methods.BuiltIn member)) e = absurd cc
    unprinted_virtual r (Ok (methods.Given c k)) e = refl
    unprinted_virtual r (Err why) e = refl

    unprinted_special : (r : MethodReference) (t : Result Method Unresolved)
        → on_call (special_callee P d r t) ≡ Refused kind → print_of t ≡ None
    unprinted_special r (Ok (methods.BuiltIn member)) e = absurd cc
    unprinted_special r (Ok (methods.Given c k)) e = refl
    unprinted_special r (Err why) e = refl

    unprinted_static : (descriptor : ℕ) (t : Result Method Unresolved)
        → on_call (static_callee P d descriptor t) ≡ Refused kind → print_of t ≡ None
    unprinted_static descriptor (Ok (methods.BuiltIn member)) e = absurd (no_fault lack e)
    unprinted_static descriptor (Ok (methods.Given c k)) e = refl
    unprinted_static descriptor (Err why) e = refl

    virtual : (o : Option MethodReference) → on_call (virtual_reference P d o) ≡ Refused kind
        → called_print P d o ≡ None
    virtual None e = refl
    virtual (Some r) e =
        signed (signature_at P d r.descriptor) r (virtual_callee P d r r.target) (unprinted_virtual r r.target) e

    special : (o : Option MethodReference) → on_call (special_reference P d o) ≡ Refused kind
        → called_print P d o ≡ None
    special None e = refl
    special (Some r) e =
        signed (signature_at P d r.descriptor) r (special_callee P d r r.target) (unprinted_special r r.target) e

    static : (o : Option MethodReference) → on_call (static_reference P d o) ≡ Refused kind
        → called_print P d o ≡ None
    static None e = refl
    static (Some r) e =
        signed (signature_at P d r.descriptor) r (static_callee P d r.descriptor r.target)
        (unprinted_static r.descriptor r.target) e

    -- ---- instructions

    unresolved : (i : Instruction) → resolved_operation P d m i ≡ Refused kind → resolved_feature P d i ≡ None
    unresolved (instructions.GetStatic index) e = unread_constant (constant_at P d index) e
    unresolved (instructions.PutStatic index) e = unwritten_constant (constant_at P d index) e
    unresolved (instructions.InvokeVirtual index) e = virtual (of_class (constant_at P d index)) e
    unresolved (instructions.InvokeInterface index) e = virtual (of_interface (constant_at P d index)) e
    unresolved (instructions.InvokeSpecial index) e = special (of_either (constant_at P d index)) e
    unresolved (instructions.InvokeStatic index) e = static (of_either (constant_at P d index)) e
    unresolved other e = refl

    feature_is : (t : Feature) → operation_feature (Refused kind) ≡ Some t → (i : Instruction)
        (l : Option LocalOperation) → local_or l (resolved_operation P d m i) ≡ Refused kind
        → option_or (resolved_feature P d i) (operation_feature (local_or l (resolved_operation P d m i))) ≡ Some t
    feature_is t is i (Some l) e = absurd cc
    feature_is t is i None e =
        ap (λ (o : Option Feature). option_or o (operation_feature (resolved_operation P d m i))) (unresolved i e)
        ∙ (ap operation_feature e ∙ is)

    feature_of_is : (t : Feature) → operation_feature (Refused kind) ≡ Some t → (i : Option Instruction)
        → operation_of P d m i ≡ Some (Refused kind) → feature_of P d m i ≡ Some t
    feature_of_is t is None e = absurd cc
    feature_of_is t is (Some i) e =
        let same : local_or (local_of i) (resolved_operation P d m i) ≡ Refused kind = cc in
        feature_is t is i (local_of i) same

    pub feature_at_is : (t : Feature) → operation_feature (Refused kind) ≡ Some t → (place : ℕ)
        → operation_at P d m place ≡ Some (Refused kind) → feature_at P d m place ≡ Some t
    unfolding operation_at
    feature_at_is t is place e = feature_of_is t is (instruction_at P d m place) e

-- what is told of it ends a thread so
pub refused_feature : {kind : FaultKind} → IsLack kind
    → (t : Feature) × (operation_feature (Refused kind) ≡ Some t) × (end_of t ≡ Some kind)
refused_feature Unsupported = (features.LeftOut, refl, refl)
refused_feature Missing = (features.Misses, refl, refl)
