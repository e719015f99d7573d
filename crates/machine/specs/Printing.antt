-- Prints of System.out: the methods print and println of java.io.PrintStream.
use Rattle.std.specs.Prelude.{ℕ, ℤ, pos, ◌%◌, ◌^◌, ◌++◌, Bool, true, false}
use Rattle.std.specs.Prelude.{not, List, [], ◌∷◌, Option, Some, None, if◌then◌else◌}
use Rattle.std.specs.Prelude.{codes, slice_get}
use Rattle.std.specs.Int.{w32, cast_unsigned}
use Rattle.std.specs.Ordering.{int_eq}
use Rattle.std.specs.Fmt.{signed_decimal}
use Rattle.classfile.specs.Printing.{printed_units, units_of}
use Rattle.built_in.specs.declared.method.Printed.{Printed}
use Rattle.built_in.specs.declared.method.Printed.TheVariants as printed
use Rattle.vm_state.specs.declared.value.Value.{Value}
use Rattle.vm_state.specs.declared.value.Value.TheVariants as values
use Rattle.vm_state.specs.declared.frame.Frame.{Frame}
use Rattle.vm_state.specs.Operands.{top, rest}
use Rattle.vm_state.specs.Texts.{boolean_text}
use Rattle.semantics.specs.Rows.{Row, Print as PrintText}
use Rattle.program.specs.Tables.{Tables}
use Rattle.frame_instructions.specs.declared.operand_kind.OperandKind.TheVariants.{Reference}
use Rattle.frame_instructions.specs.OperandKinds.{top_as}
use Rattle.machine.specs.declared.call_operation.InstanceCall.{InstanceCall}
use Rattle.machine.specs.Calls.{is_out, called_on}
use Rattle.machine.specs.RowParts.{needing, drops}

-- ---- the text of a value

-- a char is the low 16 bits of an int
abbrev pub unit_of_int : ℤ → ℕ
unit_of_int n = cast_unsigned w32 n % 2 ^ 16

abbrev pub text_of_string : Option (List ℕ) → Option (List ℕ)
text_of_string None = None
text_of_string (Some text) = Some (printed_units (units_of text))

-- the text of a value as a method prints it, or none where it is of another kind
abbrev pub printed_text : Tables → Printed → Value → Option (List ℕ)
printed_text P printed.Int (values.Int n) = Some (signed_decimal n)
printed_text P printed.Long (values.Long n) = Some (signed_decimal n)
printed_text P printed.Char (values.Int n) = Some (printed_units (unit_of_int n ∷ []))
printed_text P printed.Boolean (values.Int n) = Some (boolean_text (not (int_eq n (pos 0))))
printed_text P printed.String values.Null = Some (codes "null")
printed_text P printed.String (values.Text s) = text_of_string (slice_get P.strings s)
printed_text P what v = None

-- a line ends with byte 0A
abbrev pub ended : Bool → List ℕ → List ℕ
ended true text = text ++ 10 ∷ []
ended false text = text

-- ---- prints

-- A text is printed on System.out, and so many operands go. On another receiver it is a call as any.
abbrev pub print_on : Tables → List ℕ → ℕ → InstanceCall → Frame → Value → Row
print_on P text count k f v = if is_out v then PrintText text (drops count f) else called_on P k count f v

-- print and println of a value
abbrev pub print_value : Tables → Printed → Bool → InstanceCall → Frame → Row
print_value P what line k f =
    needing (top f.operands) (λ v.
    needing (printed_text P what v) (λ text.
    needing (top_as Reference (rest f.operands)) (print_on P (ended line text) 2 k f)))

-- println()
abbrev pub end_line : Tables → InstanceCall → Frame → Row
end_line P k f = needing (top_as Reference f.operands) (print_on P (10 ∷ []) 1 k f)
