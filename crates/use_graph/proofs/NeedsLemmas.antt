-- What the code of a linked program needs are given classes.
use Rattle.std.proofs.Common.{◌≡◌, inl, inr, ℕ, ◌<◌, Bool, true, false, cond, not, ◌&&◌, length, Option}
use Rattle.std.proofs.Common.{Some, None, Ok, Err, IsSome, is_some, refl, sym, ap, subst, ◌∙◌}
use Rattle.std.specs.declared.result.Result.{Result}
use Rattle.std.proofs.lemmas.Bool.{cases_lt}
use Rattle.std.proofs.lemmas.Option.{slice_get_past}
use Rattle.classfile.specs.Flags.{has_flag}
use Rattle.classfile.specs.ClassFile.{ClassFile}
use Rattle.bytecode.specs.declared.instruction.Instruction.{Instruction}
use Rattle.bytecode.specs.declared.instruction.Instruction.TheVariants as instructions
use Rattle.vm_state.specs.declared.ends.FaultKind.{FaultKind}
use Rattle.vm_state.specs.declared.ends.FaultKind.TheVariants as faults
use Rattle.built_in.specs.declared.class_id.ArrayType.{ArrayType}
use Rattle.built_in.specs.declared.class_id.BuiltIn.{BuiltIn as BuiltInClass}
use Rattle.built_in.specs.declared.class_id.BuiltIn.TheVariants as builtins
use Rattle.built_in.specs.declared.class_id.ClassId.{ClassId}
use Rattle.built_in.specs.declared.class_id.ClassId.TheVariants as class_ids
use Rattle.built_in.specs.declared.method.BuiltInMethod.TheVariants as members
use Rattle.loading.specs.Families.{Family, file_of, file_in, passes}
use Rattle.hierarchy.specs.MemberLookup.{flags_of}
use Rattle.hierarchy.specs.declared.member.Method.{Method}
use Rattle.hierarchy.specs.declared.member.Method.TheVariants as methods
use Rattle.hierarchy.specs.declared.member.Unresolved.{Unresolved}
use Rattle.hierarchy.specs.declared.member.Unresolved.TheVariants as unresolved
use Rattle.program.specs.declared.class.Implementation.{Implementation}
use Rattle.program.specs.declared.class.Implementation.TheVariants as implementations
use Rattle.program.specs.declared.runtime_constant.FieldKind.{FieldKind}
use Rattle.program.specs.declared.runtime_constant.FieldKind.TheVariants as kinds
use Rattle.program.specs.declared.runtime_constant.FieldTarget.{FieldTarget}
use Rattle.program.specs.declared.runtime_constant.FieldTarget.TheVariants as targets
use Rattle.program.specs.declared.runtime_constant.MethodReference.{MethodReference}
use Rattle.program.specs.declared.runtime_constant.RuntimeConstant.{RuntimeConstant}
use Rattle.program.specs.declared.runtime_constant.RuntimeConstant.TheVariants as runtime
use Rattle.program.specs.declared.signature.Signature.{Signature}
use Rattle.program.specs.Arrays.{array_of}
use Rattle.program.specs.MemberFlags.{is_static_method}
use Rattle.program.specs.InstanceFields.{has_instances, is_instantiable_in}
use Rattle.program.specs.Programs.{IsProgram}
use Rattle.program.specs.Tables.{Tables, constant_at, signature_at, instruction_at, implementation_at}
use Rattle.program.specs.Tables.{initializer_in}
use Rattle.frame_instructions.specs.declared.operand_kind.OperandKind.{OperandKind}
use Rattle.frame_instructions.specs.declared.operand_kind.OperandKind.TheVariants as operands
use Rattle.frame_instructions.specs.Families.{Local as LocalOperation}
use Rattle.frame_instructions.specs.Instructions.{local_of}
use Rattle.machine.specs.Initializers.{is_method}
use Rattle.machine.specs.declared.call_operation.CallOperation.{CallOperation}
use Rattle.machine.specs.declared.call_operation.CallOperation.TheVariants as calls
use Rattle.machine.specs.declared.call_operation.InstanceCall.{InstanceCall}
use Rattle.machine.specs.declared.object_operation.InstanceField.{InstanceField}
use Rattle.machine.specs.declared.object_operation.ObjectOperation.TheVariants as objects
use Rattle.machine.specs.CallReferences.{of_class, of_interface, of_either, has_values, if_signed, static_callee}
use Rattle.machine.specs.CallReferences.{static_reference, is_static_target, instance_operation}
use Rattle.machine.specs.CallReferences.{virtual_callee, virtual_reference, found_special}
use Rattle.machine.specs.CallReferences.{special_callee, special_reference}
use Rattle.machine.specs.ObjectReferences.{named_class, new_built_in, new_named, new_of, check_cast_to}
use Rattle.machine.specs.ObjectReferences.{check_cast_of, instance_of_named, instance_test_of, named_instance_field}
use Rattle.machine.specs.ObjectReferences.{get_field_by, get_field_of, put_field_by, put_field_of}
use Rattle.machine.specs.Operations.{Operation, PutStatic, Return, Refused, int_constant, long_constant}
use Rattle.machine.specs.Operations.{may_write, if_valued, get_target, getstatic_of, put_target, putstatic_of, on_call}
use Rattle.machine.specs.Operations.{returns_so, return_of, new_of_references, anewarray_of, on_object}
use Rattle.machine.specs.Operations.{resolved_operation, local_or, operation_of, operation_at}
use Rattle.machine.proofs.LawsFinalLemmas.{constant_at_put, static_target}
use Rattle.use_graph.specs.Code.{needed_by}
use Rattle.use_graph.specs.Uses.{MayNeed}

-- ---- given classes

abbrev IsGiven : Family → ℕ → Type 0
IsGiven family e = IsSome (file_in family e)

given_within : (family : Family) (e : ℕ) → IsGiven family e → e < length family
given_within family e given = elim (cases_lt e (length family)) [
  | inl low ↦ low
  | inr past ↦ absurd (let nothing : file_in family e ≡ None =
      ap file_of (slice_get_past family e past) in
      let clash = ap is_some (sym nothing) ∙ given in cc)
]

-- a method with a flag is one of a class that is there
flagged_given : (family : Family) (d k : ℕ) → is_static_method family d k ≡ true → IsGiven family d
flagged_given family d k = by (file_in family d)
  where
    by : (o : Option ClassFile) → has_flag (flags_of o k) 8 ≡ true → IsSome o
    by None is = cc
    by (Some f) is = refl

instantiable_given : (family : Family) (c : ℕ) → is_instantiable_in family c ≡ true → IsGiven family c
instantiable_given family c = by (file_in family c)
  where
    by : (o : Option ClassFile) → passes has_instances o ≡ true → IsSome o
    by None is = cc
    by (Some f) is = refl

-- ---- constants that stand for fields

module _ (P : Tables) (is : IsProgram P) where
  -- a static field is one of a class that is there
  constant_given : (d index c k : ℕ) (kind : FieldKind) (final : Bool) (place : ℕ)
      → constant_at P d index ≡ Some (runtime.Field kind (Ok (targets.Static c k final place))) → IsGiven P.family c
  constant_given d index c k kind final place at =
      let source = (constant_at_put P is d index kind (Ok (targets.Static c k final place)) at).2 in
      let static = static_target P.family c k final place source.result source.target_is in
      ap is_some static.stands

-- ---- operations

module _ (P : Tables) where
  -- what it needs is given
  abbrev NeedsGiven : Operation → Type 0
  NeedsGiven o = (e : ℕ) → needed_by o ≡ Some e → IsGiven P.family e

  from_int : (c : Option RuntimeConstant) → NeedsGiven (int_constant c)
  from_int (Some (runtime.Int n)) e h = cc
  from_int (Some (runtime.String n)) e h = cc
  from_int (Some runtime.Float) e h = cc
  from_int (Some (runtime.Class x)) e h = cc
  from_int (Some runtime.MethodHandle) e h = cc
  from_int (Some runtime.MethodType) e h = cc
  from_int other e h = cc

  from_long : (c : Option RuntimeConstant) → NeedsGiven (long_constant c)
  from_long (Some (runtime.Long n)) e h = cc
  from_long (Some runtime.Double) e h = cc
  from_long other e h = cc

  from_return : (operand : Option OperandKind) (o : Option Implementation) → NeedsGiven (return_of operand o)
  from_return operand (Some (implementations.Code code)) = by_kind (returns_so operand code.returns)
    where
      by_kind : (b : Bool) → NeedsGiven (cond b (Return code.returns) (Refused faults.Fault))
      by_kind true e h = cc
      by_kind false e h = cc
  from_return operand other = λ e h. cc

  from_array : (c : Option RuntimeConstant) → NeedsGiven (anewarray_of P c)
  from_array (Some (runtime.Class None)) = λ e h. cc
  from_array (Some (runtime.Class (Some class))) = by_type (array_of P.family class)
    where
      by_type : (o : Option ArrayType) → NeedsGiven (new_of_references o)
      by_type None e h = cc
      by_type (Some array) e h = cc
  from_array other = λ e h. cc

  -- ---- objects

  from_built_in : (b : BuiltInClass) → NeedsGiven (on_object (new_built_in b))
  from_built_in builtins.Enum e h = cc
  from_built_in builtins.String e h = cc
  from_built_in builtins.System e h = cc
  from_built_in builtins.PrintStream e h = cc
  from_built_in other e h = cc

  from_new : (c : Option RuntimeConstant) → NeedsGiven (on_object (new_of P c))
  from_new c = by_named (named_class c)
    where
      by_test : (d : ℕ) (b : Bool) → is_instantiable_in P.family d ≡ b
          → NeedsGiven (on_object (cond b (Ok (objects.NewGiven d)) (Err faults.Fault)))
      by_test d true there e h = (let same : d ≡ e = cc in
          subst (IsGiven P.family) same (instantiable_given P.family d there))
      by_test d false there e h = cc

      by_named : (r : Result ClassId FaultKind) → NeedsGiven (on_object (new_named P r))
      by_named (Ok (class_ids.Given d)) = by_test d (is_instantiable_in P.family d) refl
      by_named (Ok (class_ids.BuiltIn b)) = from_built_in b
      by_named (Ok (class_ids.Array a)) = λ e h. cc
      by_named (Err kind) = λ e h. cc

  from_cast : (c : Option RuntimeConstant) → NeedsGiven (on_object (check_cast_of c))
  from_cast c = by_named (named_class c)
    where
      by_named : (r : Result ClassId FaultKind) → NeedsGiven (on_object (check_cast_to r))
      by_named (Ok x) e h = cc
      by_named (Err kind) e h = cc

  from_instance : (c : Option RuntimeConstant) → NeedsGiven (on_object (instance_test_of c))
  from_instance c = by_named (named_class c)
    where
      by_named : (r : Result ClassId FaultKind) → NeedsGiven (on_object (instance_of_named r))
      by_named (Ok x) e h = cc
      by_named (Err kind) e h = cc

  from_get_field : (c : Option RuntimeConstant) → NeedsGiven (on_object (get_field_of c))
  from_get_field c = by_named (named_instance_field c)
    where
      by_named : (r : Result InstanceField FaultKind) → NeedsGiven (on_object (get_field_by r))
      by_named (Ok field) e h = cc
      by_named (Err kind) e h = cc

  from_put_field : (c : Option RuntimeConstant) → NeedsGiven (on_object (put_field_of c))
  from_put_field c = by_named (named_instance_field c)
    where
      by_named : (r : Result InstanceField FaultKind) → NeedsGiven (on_object (put_field_by r))
      by_named (Ok field) e h = cc
      by_named (Err kind) e h = cc

  -- ---- calls

  from_signed : (o : Option Signature) (r : Result CallOperation FaultKind) → NeedsGiven (on_call r)
      → NeedsGiven (on_call (if_signed o r))
  from_signed None r on = λ e h. cc
  from_signed (Some signature) r on = by_values (has_values signature)
    where
      by_values : (b : Bool) → NeedsGiven (on_call (cond b r (Err faults.Unsupported)))
      by_values true = on
      by_values false = λ e h. cc

  from_static : (c descriptor : ℕ) (t : Result Method Unresolved)
      → NeedsGiven (on_call (static_callee P c descriptor t))
  from_static c descriptor (Ok (methods.BuiltIn member)) = λ e h. cc
  from_static c descriptor (Err unresolved.Missing) = λ e h. cc
  from_static c descriptor (Err unresolved.NoReference) = λ e h. cc
  from_static c descriptor (Err unresolved.Incompatible) = λ e h. cc
  from_static c descriptor (Ok (methods.Given d k)) =
      by_static (is_static_method P.family d k) (not (is_method k (initializer_in P d))) refl
    where
      by_static : (b other : Bool) → is_static_method P.family d k ≡ b
          → NeedsGiven (on_call (cond (b && other)
          (Ok (calls.Static (record { class = d; index = k; caller = c; descriptor = descriptor })))
          (Err faults.Fault)))
      by_static true true there e h = (let same : d ≡ e = cc in
          subst (IsGiven P.family) same (flagged_given P.family d k there))
      by_static true false there e h = cc
      by_static false other there e h = cc

  from_static_reference : (c : ℕ) (o : Option MethodReference) → NeedsGiven (on_call (static_reference P c o))
  from_static_reference c None = λ e h. cc
  from_static_reference c (Some r) =
      from_signed (signature_at P c r.descriptor) (static_callee P c r.descriptor r.target)
      (from_static c r.descriptor r.target)

  -- a call of an instance method needs no class
  from_operation : (o : Option Method) (call : InstanceCall) → NeedsGiven (on_call (Ok (instance_operation o call)))
  from_operation (Some (methods.BuiltIn (members.Print what))) call = λ e h. cc
  from_operation (Some (methods.BuiltIn (members.PrintLine what))) call = λ e h. cc
  from_operation (Some (methods.BuiltIn members.EndLine)) call = λ e h. cc
  from_operation other call = λ e h. cc

  from_virtual : (c : ℕ) (r : MethodReference) (t : Result Method Unresolved)
      → NeedsGiven (on_call (virtual_callee P c r t))
  from_virtual c r (Err unresolved.Missing) = λ e h. cc
  from_virtual c r (Err unresolved.NoReference) = λ e h. cc
  from_virtual c r (Err unresolved.Incompatible) = λ e h. cc
  from_virtual c r (Ok m) = by_static (is_static_target P.family m) _ (from_operation (Some m) _)
    where
      by_static : (b : Bool) (o : CallOperation) → NeedsGiven (on_call (Ok o))
          → NeedsGiven (on_call (cond b (Err faults.Fault) (Ok o)))
      by_static true o on = λ e h. cc
      by_static false o on = on

  from_virtual_reference : (c : ℕ) (o : Option MethodReference) → NeedsGiven (on_call (virtual_reference P c o))
  from_virtual_reference c None = λ e h. cc
  from_virtual_reference c (Some r) =
      from_signed (signature_at P c r.descriptor) (virtual_callee P c r r.target) (from_virtual c r r.target)

  from_special : (c : ℕ) (r : MethodReference) (t : Result Method Unresolved)
      → NeedsGiven (on_call (special_callee P c r t))
  from_special c r (Err unresolved.Missing) = λ e h. cc
  from_special c r (Err unresolved.NoReference) = λ e h. cc
  from_special c r (Err unresolved.Incompatible) = λ e h. cc
  from_special c r (Ok m) =
      by_static (is_static_target P.family m) _ (from_operation (found_special P.family c m r.class) _)
    where
      by_static : (b : Bool) (o : CallOperation) → NeedsGiven (on_call (Ok o))
          → NeedsGiven (on_call (cond b (Err faults.Fault) (Ok o)))
      by_static true o on = λ e h. cc
      by_static false o on = on

  from_special_reference : (c : ℕ) (o : Option MethodReference) → NeedsGiven (on_call (special_reference P c o))
  from_special_reference c None = λ e h. cc
  from_special_reference c (Some r) =
      from_signed (signature_at P c r.descriptor) (special_callee P c r r.target) (from_special c r r.target)

  -- ---- fields

  from_valued : (kind : FieldKind) (o : Operation) → NeedsGiven o → NeedsGiven (if_valued kind o)
  from_valued kinds.Boolean o on = on
  from_valued kinds.Byte o on = on
  from_valued kinds.Char o on = on
  from_valued kinds.Short o on = on
  from_valued kinds.Int o on = on
  from_valued kinds.Long o on = on
  from_valued kinds.Float o on = λ e h. cc
  from_valued kinds.Double o on = λ e h. cc
  from_valued kinds.Reference o on = on

  -- a static field is one of a given class
  abbrev IsOfGiven : Result FieldTarget Unresolved → Type 0
  IsOfGiven target =
      (c k place : ℕ) (final : Bool) → target ≡ Ok (targets.Static c k final place) → IsGiven P.family c

  from_get : (target : Result FieldTarget Unresolved) → IsOfGiven target → NeedsGiven (get_target target)
  from_get (Ok (targets.Static c k final place)) given = λ e h. (let same : c ≡ e = cc in
      subst (IsGiven P.family) same (given c k place final refl))
  from_get (Ok (targets.Instance c k slot)) given = λ e h. cc
  from_get (Ok targets.Out) given = λ e h. cc
  from_get (Err unresolved.Missing) given = λ e h. cc
  from_get (Err unresolved.NoReference) given = λ e h. cc
  from_get (Err unresolved.Incompatible) given = λ e h. cc

  from_put : (d m : ℕ) (kind : FieldKind) (target : Result FieldTarget Unresolved) → IsOfGiven target
      → NeedsGiven (put_target P d m kind target)
  from_put d m kind (Ok (targets.Static c k final place)) given = by_test (may_write P d m c final)
    where
      by_test : (b : Bool) → NeedsGiven (cond b (PutStatic kind c k) (Refused faults.Fault))
      by_test true e h = (let same : c ≡ e = cc in subst (IsGiven P.family) same (given c k place final refl))
      by_test false e h = cc
  from_put d m kind (Ok (targets.Instance c k slot)) given = λ e h. cc
  from_put d m kind (Ok targets.Out) given = λ e h. cc
  from_put d m kind (Err unresolved.Missing) given = λ e h. cc
  from_put d m kind (Err unresolved.NoReference) given = λ e h. cc
  from_put d m kind (Err unresolved.Incompatible) given = λ e h. cc

-- ---- instructions

module _ (P : Tables) (is : IsProgram P) (d m : ℕ) where
  of_given : (index : ℕ) (kind : FieldKind) (target : Result FieldTarget Unresolved)
      → constant_at P d index ≡ Some (runtime.Field kind target) → IsOfGiven P target
  of_given index kind target at c k place final same =
      constant_given P is d index c k kind final place
      (at ∙ ap (λ (t : Result FieldTarget Unresolved). Some (runtime.Field kind t)) same)

  from_getstatic : (index : ℕ) (c : Option RuntimeConstant) → constant_at P d index ≡ c
      → NeedsGiven P (getstatic_of c)
  from_getstatic index (Some (runtime.Field kind target)) at =
      from_valued P kind (get_target target) (from_get P target (of_given index kind target at))
  from_getstatic index other at = λ e h. cc

  from_putstatic : (index : ℕ) (c : Option RuntimeConstant) → constant_at P d index ≡ c
      → NeedsGiven P (putstatic_of P d m c)
  from_putstatic index (Some (runtime.Field kind target)) at =
      from_valued P kind (put_target P d m kind target) (from_put P d m kind target (of_given index kind target at))
  from_putstatic index other at = λ e h. cc

  from_instruction : (i : Instruction) → NeedsGiven P (resolved_operation P d m i)
  from_instruction (instructions.LoadConstant index) = from_int P (constant_at P d index)
  from_instruction (instructions.LoadWideConstant index) = from_long P (constant_at P d index)
  from_instruction (instructions.GetStatic index) = from_getstatic index (constant_at P d index) refl
  from_instruction (instructions.PutStatic index) = from_putstatic index (constant_at P d index) refl
  from_instruction (instructions.InvokeVirtual index) = from_virtual_reference P d (of_class (constant_at P d index))
  from_instruction (instructions.InvokeInterface index) =
      from_virtual_reference P d (of_interface (constant_at P d index))
  from_instruction (instructions.InvokeSpecial index) = from_special_reference P d (of_either (constant_at P d index))
  from_instruction (instructions.InvokeStatic index) = from_static_reference P d (of_either (constant_at P d index))
  from_instruction instructions.Return = from_return P None (implementation_at P d m)
  from_instruction instructions.ReturnInt = from_return P (Some operands.Int) (implementation_at P d m)
  from_instruction instructions.ReturnLong = from_return P (Some operands.Long) (implementation_at P d m)
  from_instruction instructions.ReturnReference = from_return P (Some operands.Reference) (implementation_at P d m)
  from_instruction (instructions.NewReferenceArray index) = from_array P (constant_at P d index)
  from_instruction (instructions.New index) = from_new P (constant_at P d index)
  from_instruction (instructions.CheckCast index) = from_cast P (constant_at P d index)
  from_instruction (instructions.InstanceOf index) = from_instance P (constant_at P d index)
  from_instruction (instructions.GetField index) = from_get_field P (constant_at P d index)
  from_instruction (instructions.PutField index) = from_put_field P (constant_at P d index)
  from_instruction other = λ e h. cc

  from_local : (i : Instruction) (l : Option LocalOperation) → NeedsGiven P (local_or l (resolved_operation P d m i))
  from_local i None = from_instruction i
  from_local i (Some l) = λ e h. cc

  from_place : (i : Option Instruction) (o : Operation) → operation_of P d m i ≡ Some o → NeedsGiven P o
  from_place None o at = cc
  from_place (Some i) o at =
      let same : local_or (local_of i) (resolved_operation P d m i) ≡ o = cc in
      subst (NeedsGiven P) same (from_local i (local_of i))

  from_at : (place : ℕ) (o : Operation) → operation_at P d m place ≡ Some o → NeedsGiven P o
  unfolding operation_at
  from_at place o at = from_place (instruction_at P d m place) o at

-- What the methods need that may run when a class is initialized are given classes.
pub need_within : (P : Tables) → IsProgram P → (c e : ℕ) → MayNeed P c e → e < length P.family
need_within P is c e (d, k, run, (place, o, at, needs)) =
    given_within P.family e (from_at P is d k place o at e needs)
