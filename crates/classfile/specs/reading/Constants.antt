-- The constants of a pool, read from left to right.
use Rattle.std.specs.Prelude.{ℕ, zero, suc, ◌+◌, ◌-◌, Bool, true, false, ◌&&◌, List, []}
use Rattle.std.specs.Prelude.{◌∷◌, ◌++◌, Option, Some, None, Result, Ok, Err, nat_eq, if◌then◌else◌}
use Rattle.std.specs.Int.{Width, w8, w16, w32}
use Rattle.classfile.specs.declared.fault.ClassFault.{ClassFault}
use Rattle.classfile.specs.declared.fault.ClassFault.TheVariants as faults
use Rattle.classfile.specs.declared.constant.Constant.{Constant}
use Rattle.classfile.specs.declared.constant.Constant.TheVariants as constants
use Rattle.classfile.specs.declared.constant.Kind.{Kind}
use Rattle.classfile.specs.declared.constant.Kind.TheVariants as kinds
use Rattle.classfile.specs.declared.constants_reading.Previous.{Previous}
use Rattle.classfile.specs.declared.constants_reading.Previous.TheVariants as before
use Rattle.classfile.specs.reading.Numbers.{◌>>=◌, number_at, run_at}
use Rattle.classfile.specs.Gives.{offset}
use Rattle.classfile.specs.reading.Modified.{is_modified}
use Rattle.classfile.specs.Constants.{is_wide, kind_of_tag}

-- what stands before, and what is read after it
abbrev pub with_front : List Constant → Result (List Constant × List ℕ) ClassFault
    → Result (List Constant × List ℕ) ClassFault
with_front front read = read >>= λ x. Ok (front ++ x.0, x.1)

-- one number, two numbers
abbrev pub one_at : Width → (ℕ → Constant) → ℕ → List ℕ → Result (Constant × List ℕ) ClassFault
one_at w make total bytes = do
  n ← number_at w total bytes
  Ok (make n.0, n.1)

abbrev pub two_at : Width → Width → (ℕ → ℕ → Constant) → ℕ → List ℕ → Result (Constant × List ℕ) ClassFault
two_at v w make total bytes = do
  m ← number_at v total bytes
  n ← number_at w total m.1
  Ok (make m.0 n.0, n.1)

unfoldable pub utf8_at : ℕ → ℕ → List ℕ → Result (Constant × List ℕ) ClassFault
utf8_at total index bytes = do
  n ← number_at w16 total bytes
  text ← run_at n.0 total n.1
  if is_modified text.0 then Ok (constants.Utf8 text.0, text.1) else Err (faults.Utf8 index)

unfoldable pub constant_body_at : Kind → ℕ → ℕ → List ℕ → Result (Constant × List ℕ) ClassFault
constant_body_at kinds.Utf8 total index bytes = utf8_at total index bytes
constant_body_at kinds.Integer total index bytes = one_at w32 constants.Integer total bytes
constant_body_at kinds.Float total index bytes = one_at w32 constants.Float total bytes
constant_body_at kinds.Long total index bytes = two_at w32 w32 constants.Long total bytes
constant_body_at kinds.Double total index bytes = two_at w32 w32 constants.Double total bytes
constant_body_at kinds.Class total index bytes = one_at w16 constants.Class total bytes
constant_body_at kinds.String total index bytes = one_at w16 constants.String total bytes
constant_body_at kinds.Fieldref total index bytes = two_at w16 w16 constants.Fieldref total bytes
constant_body_at kinds.Methodref total index bytes = two_at w16 w16 constants.Methodref total bytes
constant_body_at kinds.InterfaceMethodref total index bytes = two_at w16 w16 constants.InterfaceMethodref total bytes
constant_body_at kinds.NameAndType total index bytes = two_at w16 w16 constants.NameAndType total bytes
constant_body_at kinds.MethodHandle total index bytes = two_at w8 w16 constants.MethodHandle total bytes
constant_body_at kinds.MethodType total index bytes = one_at w16 constants.MethodType total bytes
constant_body_at kinds.InvokeDynamic total index bytes = two_at w16 w16 constants.InvokeDynamic total bytes

abbrev pub constant_body_of : Option Kind → ℕ → ℕ → List ℕ → Result (Constant × List ℕ) ClassFault
constant_body_of None total index bytes = Err (faults.Tag index)
constant_body_of (Some kind) total index bytes = constant_body_at kind total index bytes

unfoldable pub tagged_at : ℕ → ℕ → List ℕ → Result (Constant × List ℕ) ClassFault
tagged_at total index bytes = do
  tag ← number_at w8 total bytes
  constant_body_of (kind_of_tag tag.0) total index tag.1

-- whether what stands at the index before takes this one, too
abbrev pub is_after_wide : Previous → Bool
is_after_wide before.Narrow = false
is_after_wide before.Wide = true

-- after a wide one nothing stands; the last number has no second one
unfoldable pub constant_at : Bool → Bool → ℕ → ℕ → List ℕ → Result (Constant × List ℕ) ClassFault
constant_at true is_last total index bytes = Ok (constants.Unusable, bytes)
constant_at false is_last total index bytes = do
  c ← tagged_at total index bytes
  if is_wide c.0 && is_last then Err (faults.Index (offset total bytes)) else Ok c

-- so many numbers from index on, up to count
unfoldable pub constants_from : ℕ → Bool → ℕ → ℕ → ℕ → List ℕ → Result (List Constant × List ℕ) ClassFault
constants_from zero after_wide total count index bytes = Ok ([], bytes)
constants_from (suc n) after_wide total count index bytes = do
  first ← constant_at after_wide (nat_eq (index + 1) count) total index bytes
  others ← constants_from n (is_wide first.0) total count (index + 1) first.1
  Ok (first.0 ∷ others.0, others.1)

unfoldable pub constants_at : ℕ → ℕ → List ℕ → Result (List Constant × List ℕ) ClassFault
constants_at count total bytes = do
  others ← constants_from (count - 1) false total count 1 bytes
  Ok (constants.Unusable ∷ others.0, others.1)
