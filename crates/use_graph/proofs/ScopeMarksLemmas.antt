-- What an instruction may do by its scope is told of it.
use Rattle.std.proofs.Common.{◌≡◌, ◌≢◌, inl, inr, ℕ, ◌==◌, Bool, true, false, cond, Option, Some, None, Ok, Err, refl}
use Rattle.std.proofs.Common.{sym, ap, subst, ◌∙◌, eqb-true, eq-eqb}
use Rattle.vm_state.proofs.ListLemmas.{tested}
use Rattle.built_in.specs.declared.class_id.BuiltIn.TheVariants as builtins
use Rattle.std.specs.declared.result.Result.{Result}
use Rattle.std.specs.Option.{option_or}
use Rattle.std.proofs.lemmas.Bool.{false_from_ne_true}
use Rattle.built_in.specs.declared.class_id.ArrayType.{ArrayType}
use Rattle.built_in.specs.declared.class_id.BuiltIn.{BuiltIn as BuiltInClass}
use Rattle.built_in.specs.declared.class_id.ClassId.{ClassId}
use Rattle.built_in.specs.declared.class_id.ClassId.TheVariants as class_ids
use Rattle.vm_state.specs.declared.ends.FaultKind.{FaultKind}
use Rattle.vm_state.specs.declared.ends.FaultKind.TheVariants as faults
use Rattle.vm_state.specs.declared.frame.Activity.{Activity}
use Rattle.bytecode.specs.declared.instruction.Instruction.{Instruction}
use Rattle.bytecode.specs.declared.instruction.Instruction.TheVariants as instructions
use Rattle.semantics.specs.Quiet.{is_final}
use Rattle.semantics.specs.Bounds as bounds
use Rattle.hierarchy.specs.declared.member.Method.{Method as ResolvedMethod}
use Rattle.hierarchy.specs.declared.member.Method.TheVariants as methods
use Rattle.hierarchy.specs.declared.member.Unresolved.{Unresolved}
use Rattle.hierarchy.specs.declared.member.Unresolved.TheVariants as unresolved
use Rattle.program.specs.declared.class.Implementation.{Implementation}
use Rattle.program.specs.declared.class.Implementation.TheVariants as implementations
use Rattle.program.specs.declared.runtime_constant.FieldKind.{FieldKind}
use Rattle.program.specs.declared.runtime_constant.FieldKind.TheVariants as kinds
use Rattle.program.specs.declared.runtime_constant.FieldTarget.{FieldTarget}
use Rattle.program.specs.declared.runtime_constant.FieldTarget.TheVariants as targets
use Rattle.program.specs.declared.runtime_constant.MethodReference.{MethodReference}
use Rattle.program.specs.declared.runtime_constant.RuntimeConstant.{RuntimeConstant}
use Rattle.program.specs.declared.runtime_constant.RuntimeConstant.TheVariants as runtime
use Rattle.program.specs.declared.signature.Signature.{Signature}
use Rattle.program.specs.Arrays.{array_of}
use Rattle.program.specs.Fields.{has_value}
use Rattle.program.specs.Programs.{IsProgram}
use Rattle.program.specs.Tables.{Tables, constant_at, implementation_at, signature_at, instruction_at}
use Rattle.frame_instructions.specs.declared.operand_kind.OperandKind.{OperandKind}
use Rattle.frame_instructions.specs.declared.operand_kind.OperandKind.TheVariants as operands
use Rattle.frame_instructions.specs.Families.{Local as LocalOperation}
use Rattle.frame_instructions.specs.Instructions.{local_of}
use Rattle.machine.specs.declared.call_operation.CallOperation.{CallOperation}
use Rattle.machine.specs.declared.call_operation.CallOperation.TheVariants as calls
use Rattle.machine.specs.declared.object_operation.InstanceField.{InstanceField}
use Rattle.machine.specs.declared.object_operation.ObjectOperation.{ObjectOperation}
use Rattle.machine.specs.declared.object_operation.ObjectOperation.TheVariants as objects
use Rattle.machine.specs.CallReferences.{of_class, of_interface, of_either, has_values}
use Rattle.program.specs.InstanceFields.{is_instantiable_in}
use Rattle.machine.specs.ObjectReferences.{named_class, new_built_in, new_named, new_of}
use Rattle.machine.specs.ObjectReferences.{check_cast_to, check_cast_of, instance_of_named, instance_test_of}
use Rattle.machine.specs.ObjectReferences.{named_instance_field, get_field_by, get_field_of, put_field_by, put_field_of}
use Rattle.machine.specs.Operations.{Operation, Local, PutStatic, GetOut, OnCall, Return, Refused, OnObject}
use Rattle.machine.specs.Operations.{int_constant}
use Rattle.machine.specs.Operations.{long_constant, may_write, if_valued, get_target, getstatic_of, put_target}
use Rattle.machine.specs.Operations.{putstatic_of, on_call, returns_so, return_of, new_of_references, anewarray_of}
use Rattle.machine.specs.Operations.{on_object, resolved_operation, local_or, operation_of, operation_at}
use Rattle.machine.specs.Linked.{program_of}
use Rattle.machine.proofs.LawsFinalLemmas.{named_final}
use Rattle.use_graph.specs.declared.feature.Feature.{Feature}
use Rattle.use_graph.specs.declared.feature.Feature.TheVariants as features
use Rattle.use_graph.specs.declared.mark.Mark.{Mark}
use Rattle.use_graph.specs.declared.mark.Mark.TheVariants as marks
use Rattle.use_graph.specs.Code.{is_print, print_of, print_by, called_print, written_field, read_field, written_by}
use Rattle.use_graph.specs.Code.{read_by, resolved_feature, operation_feature, feature_of, feature_at}
use Rattle.use_graph.specs.Scopes.{writes_of, reads_of, prints_by, locks_by, scope_if, bounds_of}
use Rattle.use_graph.specs.Uses.{MayRun, Means, HasMark, itself}
use Rattle.use_graph.specs.Soundness.{IsBarring, Prints, Monitors, ForeignWrite, ForeignRead}
use Rattle.use_graph.proofs.ScopeUsesLemmas.{run_is_by_code}

-- this is told of an operation
record IsTold (P : Tables) (o : Operation) (t : Option Feature) : Type 0 where
  prints : prints_by o ≡ true → t ≡ Some features.Prints
  locks : locks_by o ≡ true → t ≡ Some features.Locks
  writes : (c : ℕ) → writes_of o ≡ Some c → t ≡ Some (features.Writes c)
  reads : (c : ℕ) → reads_of P o ≡ Some c → t ≡ Some (features.Reads c)

-- an operation of which nothing has to be told
record IsSilent (P : Tables) (o : Operation) : Type 0 where
  prints : prints_by o ≡ false
  locks : locks_by o ≡ false
  writes : writes_of o ≡ None
  reads : reads_of P o ≡ None

module _ (P : Tables) where
  silent_told : (o : Operation) (t : Option Feature) → IsSilent P o → IsTold P o t
  silent_told o t silent = record {
    prints = λ h. (let clash : false ≡ true = sym silent.prints ∙ h in absurd cc);
    locks = λ h. (let clash : false ≡ true = sym silent.locks ∙ h in absurd cc);
    writes = λ c h. (let clash : None ≡ Some c = sym silent.writes ∙ h in absurd cc);
    reads = λ c h. (let clash : None ≡ Some c = sym silent.reads ∙ h in absurd cc);
  }

  silent_refused : (kind : FaultKind) → IsSilent P (Refused kind)
  silent_refused kind = record { prints = refl; locks = refl; writes = refl; reads = refl }

  -- ---- constants, returns and arrays

  silent_int : (e : Option RuntimeConstant) → IsSilent P (int_constant e)
  silent_int (Some (runtime.Int n)) = record { prints = refl; locks = refl; writes = refl; reads = refl }
  silent_int (Some (runtime.String n)) = record { prints = refl; locks = refl; writes = refl; reads = refl }
  silent_int (Some runtime.Float) = silent_refused faults.Unsupported
  silent_int (Some (runtime.Class x)) = silent_refused faults.Unsupported
  silent_int (Some runtime.MethodHandle) = silent_refused faults.Unsupported
  silent_int (Some runtime.MethodType) = silent_refused faults.Unsupported
  silent_int other = silent_refused faults.Fault

  silent_long : (e : Option RuntimeConstant) → IsSilent P (long_constant e)
  silent_long (Some (runtime.Long n)) = record { prints = refl; locks = refl; writes = refl; reads = refl }
  silent_long (Some runtime.Double) = silent_refused faults.Unsupported
  silent_long other = silent_refused faults.Fault

  silent_return : (operand : Option OperandKind) (o : Option Implementation) → IsSilent P (return_of operand o)
  silent_return operand (Some (implementations.Code code)) = by_kind (returns_so operand code.returns)
    where
      by_kind : (b : Bool) → IsSilent P (cond b (Return code.returns) (Refused faults.Fault))
      by_kind true = record { prints = refl; locks = refl; writes = refl; reads = refl }
      by_kind false = silent_refused faults.Fault
  silent_return operand other = silent_refused faults.Fault

  silent_array : (e : Option RuntimeConstant) → IsSilent P (anewarray_of P e)
  silent_array (Some (runtime.Class None)) = silent_refused faults.Missing
  silent_array (Some (runtime.Class (Some class))) = by_type (array_of P.family class)
    where
      by_type : (o : Option ArrayType) → IsSilent P (new_of_references o)
      by_type None = silent_refused faults.Fault
      by_type (Some array) = record { prints = refl; locks = refl; writes = refl; reads = refl }
  silent_array other = silent_refused faults.Fault

  -- ---- objects

  abbrev IsSilentObject : Result ObjectOperation FaultKind → Type 0
  IsSilentObject r = IsSilent P (on_object r)

  silent_made : (o : ObjectOperation) → locks_by (OnObject o) ≡ false → IsSilentObject (Ok o)
  silent_made o h = record { prints = refl; locks = h; writes = refl; reads = refl }

  silent_new_built_in : (b : BuiltInClass) → IsSilentObject (new_built_in b)
  silent_new_built_in builtins.Enum = silent_refused faults.Fault
  silent_new_built_in builtins.String = silent_refused faults.Unsupported
  silent_new_built_in builtins.System = silent_refused faults.Unsupported
  silent_new_built_in builtins.PrintStream = silent_refused faults.Unsupported
  silent_new_built_in b = silent_made (objects.NewBuiltIn b) refl

  silent_new : (e : Option RuntimeConstant) → IsSilentObject (new_of P e)
  silent_new e = by_named (named_class e)
    where
      by_test : (b : Bool) (c : ℕ) → IsSilentObject (cond b (Ok (objects.NewGiven c)) (Err faults.Fault))
      by_test true c = silent_made (objects.NewGiven c) refl
      by_test false c = silent_refused faults.Fault

      by_named : (r : Result ClassId FaultKind) → IsSilentObject (new_named P r)
      by_named (Ok (class_ids.Given c)) = by_test (is_instantiable_in P.family c) c
      by_named (Ok (class_ids.BuiltIn b)) = silent_new_built_in b
      by_named (Ok (class_ids.Array a)) = silent_refused faults.Fault
      by_named (Err kind) = silent_refused kind

  silent_cast : (e : Option RuntimeConstant) → IsSilentObject (check_cast_of e)
  silent_cast e = by_named (named_class e)
    where
      by_named : (r : Result ClassId FaultKind) → IsSilentObject (check_cast_to r)
      by_named (Ok c) = silent_made (objects.CheckCast c) refl
      by_named (Err kind) = silent_refused kind

  silent_instance : (e : Option RuntimeConstant) → IsSilentObject (instance_test_of e)
  silent_instance e = by_named (named_class e)
    where
      by_named : (r : Result ClassId FaultKind) → IsSilentObject (instance_of_named r)
      by_named (Ok c) = silent_made (objects.InstanceOf c) refl
      by_named (Err kind) = silent_refused kind

  silent_get_field : (e : Option RuntimeConstant) → IsSilentObject (get_field_of e)
  silent_get_field e = by_named (named_instance_field e)
    where
      by_named : (r : Result InstanceField FaultKind) → IsSilentObject (get_field_by r)
      by_named (Ok field) = silent_made (objects.GetField field) refl
      by_named (Err kind) = silent_refused kind

  silent_put_field : (e : Option RuntimeConstant) → IsSilentObject (put_field_of e)
  silent_put_field e = by_named (named_instance_field e)
    where
      by_named : (r : Result InstanceField FaultKind) → IsSilentObject (put_field_by r)
      by_named (Ok field) = silent_made (objects.PutField field) refl
      by_named (Err kind) = silent_refused kind

  -- ---- calls

  -- what is told of a call by what its reference resolves to
  data IsPrintOrNone : Option Feature → Type 0 where
    ANothing : IsPrintOrNone None
    APrint : IsPrintOrNone (Some features.Prints)

  resolves_to : (d : ℕ) (o : Option MethodReference) → IsPrintOrNone (called_print P d o)
  resolves_to d None = ANothing
  resolves_to d (Some r) = by_signature (signature_at P d r.descriptor)
    where
      by_print : (b : Bool) → IsPrintOrNone (cond b (Some features.Prints) None)
      by_print true = APrint
      by_print false = ANothing

      by_target : (t : Result ResolvedMethod Unresolved) → IsPrintOrNone (print_of t)
      by_target (Ok (methods.BuiltIn member)) = by_print (is_print member)
      by_target (Ok (methods.Given e k)) = ANothing
      by_target (Err why) = ANothing

      by_values : (b : Bool) → IsPrintOrNone (cond b (print_of r.target) None)
      by_values true = by_target r.target
      by_values false = ANothing

      by_signature : (o : Option Signature) → IsPrintOrNone (print_by o r)
      by_signature None = ANothing
      by_signature (Some signature) = by_values (has_values signature)

  -- what is told of an operation beside that
  abbrev IsToldWith : Operation → Option Feature → Type 0
  IsToldWith o t = IsTold P o (option_or t (operation_feature o))

  print_told : (o : Operation) (t : Option Feature) → IsPrintOrNone t → operation_feature o ≡ Some features.Prints
      → locks_by o ≡ false → writes_of o ≡ None → reads_of P o ≡ None → IsToldWith o t
  print_told o t is feature locks writes reads = record {
    prints = λ h. by_kind t is;
    locks = λ h. (let clash : false ≡ true = sym locks ∙ h in absurd cc);
    writes = λ c h. (let clash : None ≡ Some c = sym writes ∙ h in absurd cc);
    reads = λ c h. (let clash : None ≡ Some c = sym reads ∙ h in absurd cc);
  }
    where
      by_kind : (t : Option Feature) → IsPrintOrNone t → option_or t (operation_feature o) ≡ Some features.Prints
      by_kind t ANothing = feature
      by_kind t APrint = refl

  call_told : (r : Result CallOperation FaultKind) (t : Option Feature) → IsPrintOrNone t → IsToldWith (on_call r) t
  call_told (Ok (calls.Static k)) t is =
      silent_told (OnCall (calls.Static k)) _ (record { prints = refl; locks = refl; writes = refl; reads = refl })
  call_told (Ok (calls.Instance k)) t is =
      silent_told (OnCall (calls.Instance k)) _ (record { prints = refl; locks = refl; writes = refl; reads = refl })
  call_told (Ok (calls.Print what line k)) t is =
      print_told (OnCall (calls.Print what line k)) t is refl refl refl refl
  call_told (Ok (calls.EndLine k)) t is = print_told (OnCall (calls.EndLine k)) t is refl refl refl refl
  call_told (Err kind) t is = silent_told (Refused kind) _ (silent_refused kind)

  -- ---- fields

  -- what is told of getstatic, of a target
  get_told : (target : Result FieldTarget Unresolved)
      → ((c k place : ℕ) (final : Bool) → target ≡ Ok (targets.Static c k final place)
      → is_final (program_of P) c k ≡ final)
      → IsToldWith (get_target target) (read_field P.family target)
  get_told (Ok (targets.Static c k final place)) declared = record {
    prints = λ h. absurd cc;
    locks = λ h. absurd cc;
    writes = λ e h. absurd cc;
    reads = λ e h. by_flag final (declared c k place final refl) e h;
  }
    where
      by_flag : (b : Bool) → is_final (program_of P) c k ≡ b → (e : ℕ)
          → cond (is_final (program_of P) c k) None (Some c) ≡ Some e
          → option_or (cond b None (Some (features.Reads c))) None ≡ Some (features.Reads e)
      by_flag true is e h = (let clash : None ≡ Some e = rw is at h in absurd cc)
      by_flag false is e h = (let same : Some c ≡ Some e = rw is at h in cc)
  get_told (Ok (targets.Instance c k slot)) declared =
      silent_told (Refused faults.Fault) _ (silent_refused faults.Fault)
  get_told (Ok targets.Out) declared =
      silent_told GetOut _ (record { prints = refl; locks = refl; writes = refl; reads = refl })
  get_told (Err unresolved.Missing) declared =
      silent_told (Refused faults.Missing) _ (silent_refused faults.Missing)
  get_told (Err unresolved.NoReference) declared =
      silent_told (Refused faults.Fault) _ (silent_refused faults.Fault)
  get_told (Err unresolved.Incompatible) declared =
      silent_told (Refused faults.Fault) _ (silent_refused faults.Fault)

  -- and of putstatic
  put_told : (d m : ℕ) (kind : FieldKind) (target : Result FieldTarget Unresolved)
      → IsToldWith (put_target P d m kind target) (written_field target)
  put_told d m kind (Ok (targets.Static c k final place)) = by_test (may_write P d m c final)
    where
      by_test : (b : Bool)
          → IsToldWith (cond b (PutStatic kind c k) (Refused faults.Fault)) (Some (features.Writes c))
      by_test true = record {
        prints = λ h. absurd cc;
        locks = λ h. absurd cc;
        writes = λ e h. (let same : Some c ≡ Some e = h in cc);
        reads = λ e h. absurd cc;
      }
      by_test false = silent_told (Refused faults.Fault) _ (silent_refused faults.Fault)
  put_told d m kind (Ok (targets.Instance c k slot)) =
      silent_told (Refused faults.Fault) _ (silent_refused faults.Fault)
  put_told d m kind (Ok targets.Out) = silent_told (Refused faults.Fault) _ (silent_refused faults.Fault)
  put_told d m kind (Err unresolved.Missing) =
      silent_told (Refused faults.Missing) _ (silent_refused faults.Missing)
  put_told d m kind (Err unresolved.NoReference) =
      silent_told (Refused faults.Fault) _ (silent_refused faults.Fault)
  put_told d m kind (Err unresolved.Incompatible) =
      silent_told (Refused faults.Fault) _ (silent_refused faults.Fault)

  -- an instruction on a field of type float or double is left out
  valued_told : (kind : FieldKind) (o : Operation) (t : Option Feature) → (has_value kind ≡ true → IsToldWith o t)
      → IsToldWith (if_valued kind o) (cond (has_value kind) t None)
  valued_told kinds.Boolean o t on = on refl
  valued_told kinds.Byte o t on = on refl
  valued_told kinds.Char o t on = on refl
  valued_told kinds.Short o t on = on refl
  valued_told kinds.Int o t on = on refl
  valued_told kinds.Long o t on = on refl
  valued_told kinds.Float o t on = silent_told (Refused faults.Unsupported) _ (silent_refused faults.Unsupported)
  valued_told kinds.Double o t on = silent_told (Refused faults.Unsupported) _ (silent_refused faults.Unsupported)
  valued_told kinds.Reference o t on = on refl

  putstatic_told : (d m : ℕ) (e : Option RuntimeConstant) → IsToldWith (putstatic_of P d m e) (written_by e)
  putstatic_told d m (Some (runtime.Field kind target)) =
      valued_told kind (put_target P d m kind target) (written_field target) (λ has. put_told d m kind target)
  putstatic_told d m other = silent_told (Refused faults.Fault) _ (silent_refused faults.Fault)

module _ (P : Tables) (is : IsProgram P) (d m : ℕ) where
  getstatic_told : (index : ℕ) (e : Option RuntimeConstant) → constant_at P d index ≡ e
      → IsToldWith P (getstatic_of e) (read_by P.family e)
  getstatic_told index (Some (runtime.Field kind target)) at =
      valued_told P kind (get_target target) (read_field P.family target) (λ has.
      get_told P target (λ c k place final same. named_final P is d index c k kind final place
      (at ∙ ap (λ (t : Result FieldTarget Unresolved). Some (runtime.Field kind t)) same) has))
  getstatic_told index other at = silent_told P (Refused faults.Fault) _ (silent_refused P faults.Fault)

  -- ---- instructions

  -- what is told of an instruction
  abbrev IsToldOf : Instruction → Operation → Type 0
  IsToldOf i o = IsToldWith P o (resolved_feature P d i)

  silent : (i : Instruction) (o : Operation) → IsSilent P o → IsToldOf i o
  silent i o h = silent_told P o _ h

  plain : (i : Instruction) (o : Operation) → prints_by o ≡ false → locks_by o ≡ false → writes_of o ≡ None
      → reads_of P o ≡ None → IsToldOf i o
  plain i o prints locks writes reads =
      silent i o (record { prints = prints; locks = locks; writes = writes; reads = reads })

  monitor_told : (i : Instruction) (o : ObjectOperation) → resolved_feature P d i ≡ None
      → operation_feature (OnObject o) ≡ Some features.Locks → IsToldOf i (OnObject o)
  monitor_told i o none locks = record {
    prints = λ h. absurd cc;
    locks = λ h. ap (λ (t : Option Feature). option_or t (operation_feature (OnObject o))) none ∙ locks;
    writes = λ c h. absurd cc;
    reads = λ c h. absurd cc;
  }

  told : (i : Instruction) → IsToldOf i (resolved_operation P d m i)
  told (instructions.LoadConstant index) =
      silent (instructions.LoadConstant index) _ (silent_int P (constant_at P d index))
  told (instructions.LoadWideConstant index) =
      silent (instructions.LoadWideConstant index) _ (silent_long P (constant_at P d index))
  told (instructions.GetStatic index) = getstatic_told index (constant_at P d index) refl
  told (instructions.PutStatic index) = putstatic_told P d m (constant_at P d index)
  told (instructions.InvokeVirtual index) = call_told P _ _ (resolves_to P d (of_class (constant_at P d index)))
  told (instructions.InvokeInterface index) = call_told P _ _ (resolves_to P d (of_interface (constant_at P d index)))
  told (instructions.InvokeSpecial index) = call_told P _ _ (resolves_to P d (of_either (constant_at P d index)))
  told (instructions.InvokeStatic index) = call_told P _ _ (resolves_to P d (of_either (constant_at P d index)))
  told instructions.Return = silent instructions.Return _ (silent_return P None (implementation_at P d m))
  told instructions.ReturnInt =
      silent instructions.ReturnInt _ (silent_return P (Some operands.Int) (implementation_at P d m))
  told instructions.ReturnLong =
      silent instructions.ReturnLong _ (silent_return P (Some operands.Long) (implementation_at P d m))
  told instructions.ReturnReference =
      silent instructions.ReturnReference _ (silent_return P (Some operands.Reference) (implementation_at P d m))
  told (instructions.NewReferenceArray index) =
      silent (instructions.NewReferenceArray index) _ (silent_array P (constant_at P d index))
  told (instructions.New index) = silent (instructions.New index) _ (silent_new P (constant_at P d index))
  told (instructions.CheckCast index) = silent (instructions.CheckCast index) _ (silent_cast P (constant_at P d index))
  told (instructions.InstanceOf index) =
      silent (instructions.InstanceOf index) _ (silent_instance P (constant_at P d index))
  told instructions.Throw = plain instructions.Throw (OnObject objects.Throw) refl refl refl refl
  told (instructions.GetField index) =
      silent (instructions.GetField index) _ (silent_get_field P (constant_at P d index))
  told (instructions.PutField index) =
      silent (instructions.PutField index) _ (silent_put_field P (constant_at P d index))
  told instructions.MonitorEnter = monitor_told instructions.MonitorEnter objects.EnterMonitor refl refl
  told instructions.MonitorExit = monitor_told instructions.MonitorExit objects.ExitMonitor refl refl
  told other = plain other (resolved_operation P d m other) refl refl refl refl

  local_told : (i : Instruction) (l : Option LocalOperation) → IsToldOf i (local_or l (resolved_operation P d m i))
  local_told i None = told i
  local_told i (Some l) = plain i (Local l) refl refl refl refl

  -- of what stands at a place
  told_of : (i : Option Instruction) (o : Operation) → operation_of P d m i ≡ Some o → IsTold P o (feature_of P d m i)
  told_of None o e = absurd cc
  told_of (Some i) o e =
      let same : local_or (local_of i) (resolved_operation P d m i) ≡ o = cc in
      subst (λ (x : Operation). IsTold P x (feature_of P d m (Some i))) same (local_told i (local_of i))

  told_at : (place : ℕ) (o : Operation) → operation_at P d m place ≡ Some o → IsTold P o (feature_at P d m place)
  unfolding operation_at
  told_at place o e = told_of (instruction_at P d m place) o e

-- ---- a class without such marks

module _ (P : Tables) (is : IsProgram P) (c : ℕ) (none : (mark : Mark) → IsBarring mark → HasMark P c mark → ⊥) where
  -- nothing of an operation that may run is told that is a mark
  abbrev IsUntold : ℕ → ℕ → ℕ → Type 0
  IsUntold d k place = (t : Feature) (mark : Mark) → IsBarring mark → Means c t mark
      → feature_at P d k place ≡ Some t → ⊥

  untold : (d k place : ℕ) → MayRun P c d k → IsUntold d k place
  untold d k place run t mark barring means at = none mark barring (d, k, place, run, (t, itself at, means))

  same_class : (d e : ℕ) → (e ≢ d → ⊥) → e ≡ d
  same_class d e h = elim (tested (e == d)) [
    | inl same ↦ eqb-true e d same
    | inr other ↦ absurd (h (λ same. (let clash : false ≡ true = sym other ∙ eq-eqb e d same in cc)))
  ]

  no_class : (e : ℕ) → None ≢ Some e
  no_class e h = cc

  not_some : (e d : ℕ) → e ≢ d → Some e ≢ Some d
  not_some e d apart h = apart cc

  abbrev IsCleanScope : bounds.Scope → Type 0
  IsCleanScope scope =
      (scope.prints ≡ false) × (scope.locks ≡ false) × ((e : ℕ) → scope.writes ≡ Some e → e ≡ c)
      × ((e : ℕ) → scope.reads ≡ Some e → e ≡ c)

  clean_if : (d k place : ℕ) → MayRun P c d k → (o : Option Operation) → operation_at P d k place ≡ o
      → IsCleanScope (scope_if P o)
  clean_if d k place run None at = (refl, refl, λ e h. absurd cc, λ e h. absurd cc)
  clean_if d k place run (Some o) at =
      let tell = told_at P is d k place o at in
      let no = untold d k place run in (
        false_from_ne_true (prints_by o)
            (λ h. no features.Prints marks.Prints Prints (refl, no_class c) (tell.prints h)),
        false_from_ne_true (locks_by o)
            (λ h. no features.Locks marks.Monitors Monitors (refl, no_class c) (tell.locks h)),
        λ e h. same_class c e (λ apart.
            no (features.Writes e) marks.ForeignWrite ForeignWrite (refl, not_some e c apart) (tell.writes e h)),
        λ e h. same_class c e (λ apart.
            no (features.Reads e) marks.ForeignRead ForeignRead (refl, not_some e c apart) (tell.reads e h)),
      )

  clean_at : (a : Activity) (place : ℕ) → bounds.MayRun (program_of P) (bounds_of P) c a
      → IsCleanScope (bounds_of P a place)
  clean_at a place run =
      let found = run_is_by_code run in
      subst (λ (x : Activity). IsCleanScope (bounds_of P x place)) (sym found.2)
      (clean_if found.0 found.1 place found.3 (operation_at P found.0 found.1 place) refl)

  pub unmarked_is_clean : bounds.IsClean (program_of P) (bounds_of P) c
  unmarked_is_clean = record {
    prints = λ a place run. (clean_at a place run).0;
    locks = λ a place run. (clean_at a place run).1;
    writes = λ a place e run. (clean_at a place run).2 e;
    reads = λ a place e run. (clean_at a place run).3 e;
  }
