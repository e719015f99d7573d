-- The rows that need no class and no monitor are plain.
use Rattle.std.proofs.Common.{ℕ, Bool, List, Option}
use Rattle.built_in.specs.declared.class_id.BuiltIn.{BuiltIn as BuiltInClass}
use Rattle.built_in.specs.declared.class_id.ClassId.{ClassId}
use Rattle.built_in.specs.declared.class_id.ClassId.TheVariants.{Given, BuiltIn}
use Rattle.built_in.specs.declared.method.Printed.{Printed}
use Rattle.vm_state.specs.declared.frame.Frame.{Frame}
use Rattle.vm_state.specs.declared.value.Value.{Value}
use Rattle.vm_state.specs.Operands.{pushed, rest}
use Rattle.vm_state.specs.Values.{value_of}
use Rattle.semantics.specs.Lawful.{IsPlain}
use Rattle.semantics.specs.Moves.{with_operands}
use Rattle.program.specs.Tables.{Tables}
use Rattle.machine.specs.declared.array_operation.ArrayOperation.{ArrayOperation}
use Rattle.machine.specs.declared.call_operation.InstanceCall.{InstanceCall}
use Rattle.machine.specs.declared.call_operation.StaticCall.{StaticCall}
use Rattle.machine.specs.declared.object_operation.InstanceField.{InstanceField}
use Rattle.machine.specs.RowParts.{push}
use Rattle.machine.specs.Arrays.{array_row}
use Rattle.machine.specs.Objects.{new_object, check_cast, instance_of, throw_row, get_field, put_field}
use Rattle.machine.specs.Calls.{enter_static, call_instance}
use Rattle.machine.specs.Printing.{print_value, end_line}
use Rattle.machine.specs.Table.{call_main}
use Rattle.machine.proofs.TableLemmas.{needing_any}
use Rattle.machine.proofs.AnyRowsLemmas.{GoesUp, GoesUpChange, OfChanges, changes_any, GoesOut, array_any, given_any}
use Rattle.machine.proofs.AnyRowsLemmas.{built_in_any, cast_any}
use Rattle.machine.proofs.AnyRowsLemmas.{instance_any, throw_any, got_any, put_any, static_any, instance_call_any}
use Rattle.machine.proofs.AnyRowsLemmas.{print_any, line_any, main_any}

pub pushed_plain : (v : Value) (f : Frame) → IsPlain (push v f)
pushed_plain v f = needing_any IsPlain (λ kind. tt) (pushed v f.operands) _ (λ s is. tt)

up : GoesUp IsPlain (λ f. Unit {0})
up = record {
  room = λ f n v is. tt;
  stayed = λ place locals operands. tt;
  raised = λ x class. tt;
  halted = λ kind. tt;
  asked = λ x next on. on;
  looked = λ x part next on. on;
  made_given = λ c slots next on. on;
  made_built_in = λ b slots next on. on;
  made_array = λ a slots f room x. pushed_plain (value_of x) (with_operands f (rest f.operands));
}

changed : GoesUpChange IsPlain
changed x slot v next on = on

changes : (P : Tables) → OfChanges IsPlain P
changes P = changes_any _ _ up changed P

out : GoesOut IsPlain
out = record { moved = λ move. tt; printed = λ text next on. on }

pub array_plain : (P : Tables) (operation : ArrayOperation) (f : Frame) → IsPlain (array_row P operation f)
array_plain P operation f = array_any _ _ up P (changes P) operation f

pub given_plain : (c : ℕ) (slots : List Value) (f : Frame) → IsPlain (new_object (Given c) slots f)
given_plain c slots f = given_any _ _ up c slots f

pub built_in_plain : (b : BuiltInClass) (slots : List Value) (f : Frame) → IsPlain (new_object (BuiltIn b) slots f)
built_in_plain b slots f = built_in_any _ _ up b slots f

pub cast_plain : (P : Tables) (class : ClassId) (f : Frame) → IsPlain (check_cast P class f)
cast_plain P class f = cast_any _ _ up P class f

pub instance_plain : (P : Tables) (class : ClassId) (f : Frame) → IsPlain (instance_of P class f)
instance_plain P class f = instance_any _ _ up P class f

pub throw_plain : (P : Tables) (f : Frame) → IsPlain (throw_row P f)
throw_plain P f = throw_any _ _ up P f

pub got_plain : (P : Tables) (field : InstanceField) (f : Frame) → IsPlain (get_field P field f)
got_plain P field f = got_any _ _ up P field f

pub put_plain : (P : Tables) (field : InstanceField) (f : Frame) → IsPlain (put_field P field f)
put_plain P field f = put_any _ _ up changed P field f

pub static_plain : (P : Tables) (k : StaticCall) (f : Frame) → IsPlain (enter_static P k f)
static_plain P k f = static_any _ _ up out P k f

pub instance_call_plain : (P : Tables) (k : InstanceCall) (f : Frame) → IsPlain (call_instance P k f)
instance_call_plain P k f = instance_call_any _ _ up out P (changes P) k f

pub print_plain : (P : Tables) (what : Printed) (line : Bool) (k : InstanceCall) (f : Frame)
    → IsPlain (print_value P what line k f)
print_plain P what line k f = print_any _ _ up out P (changes P) what line k f

pub line_plain : (P : Tables) (k : InstanceCall) (f : Frame) → IsPlain (end_line P k f)
line_plain P k f = line_any _ _ up out P (changes P) k f

pub main_plain : (P : Tables) (c : ℕ) (f : Frame) (o : Option ℕ) → IsPlain (call_main P c f o)
main_plain P c f o = main_any _ _ up out P c f o
