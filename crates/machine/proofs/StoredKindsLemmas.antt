-- What holds of operands holds of the value that a field or a caller gets.
use Rattle.std.proofs.Common.{Option, Some, None}
use Rattle.std.specs.List.{AllByRecursion}
use Rattle.std.specs.Option.{IfSome}
use Rattle.std.specs.Prelude.{option_map}
use Rattle.vm_state.specs.declared.value.Value.{Value}
use Rattle.vm_state.specs.declared.value.Value.TheVariants as values
use Rattle.vm_state.specs.declared.value.Name.{Name}
use Rattle.vm_state.specs.Operands.{OperandStack, top}
use Rattle.semantics.proofs.KeptLemmas.{IsKept}
use Rattle.program.specs.declared.runtime_constant.FieldKind.{FieldKind}
use Rattle.program.specs.Fields.{narrowed, narrowed_value}
use Rattle.frame_instructions.specs.declared.operand_kind.OperandKind.{OperandKind}
use Rattle.frame_instructions.proofs.LawsFrameLemmas.{top_has, as_kind_has}
use Rattle.machine.specs.StoredKinds.{operand_kind, top_of_kind, top_stored}

module _ {N : Name → Type 0} {Q : Value → Type 0} (kept : IsKept N Q) where
  narrowed_has : (kind : FieldKind) (o : Option Value) → IfSome o Q → IfSome (option_map (narrowed_value kind) o) Q
  narrowed_has kind None h = tt
  narrowed_has kind (Some (values.Int n)) h = kept.int (narrowed kind n)
  narrowed_has kind (Some (values.Long n)) h = h
  narrowed_has kind (Some values.Null) h = h
  narrowed_has kind (Some (values.Text s)) h = h
  narrowed_has kind (Some (values.OfClass c n)) h = h
  narrowed_has kind (Some (values.OfThread t n)) h = h
  narrowed_has kind (Some values.Out) h = h

  of_kind_has : (o : Option OperandKind) (s : OperandStack) → AllByRecursion Q s.values → IfSome (top_of_kind o s) Q
  of_kind_has None s h = tt
  of_kind_has (Some kind) s h = as_kind_has Q kind (top s) (top_has Q s h)

  pub stored_kept : (kind : FieldKind) (s : OperandStack) → AllByRecursion Q s.values → IfSome (top_stored kind s) Q
  stored_kept kind s h = narrowed_has kind (top_of_kind (operand_kind kind) s) (of_kind_has (operand_kind kind) s h)
