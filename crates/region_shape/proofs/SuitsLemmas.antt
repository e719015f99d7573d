-- What a field or an element gets suits it.
use Rattle.std.proofs.Common.{◌≡◌, ℕ, ℤ, ◌-◌, ◌%◌, ◌^◌, ◌<◌, Bool, true, false, cond}
use Rattle.std.proofs.Common.{suc, Option, Some, None, refl, ap, sym, ◌∙◌, arith}
use Rattle.std.specs.Prelude.{option_map}
use Rattle.std.specs.Option.{IfSome}
use Rattle.std.specs.Int.{w8, w16, w32, cast_signed, cast_unsigned}
use Rattle.std.proofs.Common.{inl, inr}
use Rattle.std.proofs.lemmas.Bool.{lt-ltb, le-ltb, cases_lt}
use Rattle.std.proofs.Math.Nat.{mod-lt}
use Rattle.vm_state.specs.declared.value.Value.{Value}
use Rattle.vm_state.specs.declared.value.Value.TheVariants as values
use Rattle.vm_state.specs.Operands.{OperandStack, top}
use Rattle.program.specs.declared.runtime_constant.FieldKind.{FieldKind}
use Rattle.program.specs.declared.runtime_constant.FieldKind.TheVariants as kinds
use Rattle.program.specs.Fields.{has_value, narrowed, narrowed_value}
use Rattle.program.specs.Programs.{zero_of}
use Rattle.frame_instructions.specs.declared.operand_kind.OperandKind.{OperandKind}
use Rattle.frame_instructions.specs.declared.operand_kind.OperandKind.TheVariants as operands
use Rattle.frame_instructions.specs.OperandKinds.{kind_of, is_kind, of_kind, as_kind, top_as}
use Rattle.machine.specs.StoredKinds.{operand_kind, top_of_kind, top_stored}
use Rattle.region_shape.specs.Suits.{is_among, is_in_range, suits}

-- ---- ints

byte_in : (m : ℕ) → m < 2 ^ 8 → is_among (2 ^ 7) (2 ^ 7) (cast_signed w8 m) ≡ true
byte_in m small = elim (cases_lt m (2 ^ 7)) [
  | inl low ↦ rw (lt-ltb m (2 ^ 7) low) (lt-ltb m (2 ^ 7) low)
  | inr high ↦ rw (le-ltb m (2 ^ 7) high) (lt-ltb (2 ^ 8 - suc m) (2 ^ 7) (omega (arith, small, high)))
]

short_in : (m : ℕ) → m < 2 ^ 16 → is_among (2 ^ 15) (2 ^ 15) (cast_signed w16 m) ≡ true
short_in m small = elim (cases_lt m (2 ^ 15)) [
  | inl low ↦ rw (lt-ltb m (2 ^ 15) low) (lt-ltb m (2 ^ 15) low)
  | inr high ↦ rw (le-ltb m (2 ^ 15) high) (lt-ltb (2 ^ 16 - suc m) (2 ^ 15) (omega (arith, small, high)))
]

pub narrowed_in : (kind : FieldKind) (n : ℤ) → is_in_range kind (narrowed kind n) ≡ true
narrowed_in kinds.Boolean n = lt-ltb _ _ (mod-lt (cast_unsigned w32 n) (omega arith))
narrowed_in kinds.Byte n = byte_in (cast_unsigned w32 n % 2 ^ 8) (mod-lt (cast_unsigned w32 n) (omega arith))
narrowed_in kinds.Char n = lt-ltb _ _ (mod-lt (cast_unsigned w32 n) (omega arith))
narrowed_in kinds.Short n = short_in (cast_unsigned w32 n % 2 ^ 16) (mod-lt (cast_unsigned w32 n) (omega arith))
narrowed_in kinds.Int n = refl
narrowed_in kinds.Long n = refl
narrowed_in kinds.Float n = refl
narrowed_in kinds.Double n = refl
narrowed_in kinds.Reference n = refl

-- ---- values

abbrev pub Suits : FieldKind → Value → Type 0
Suits kind v = suits kind v ≡ true

-- an int of a type that is held as ints
pub int_suits : (kind : FieldKind) (n : ℤ) → operand_kind kind ≡ Some operands.Int
    → Suits kind (values.Int (narrowed kind n))
int_suits kinds.Boolean n e = narrowed_in kinds.Boolean n
int_suits kinds.Byte n e = narrowed_in kinds.Byte n
int_suits kinds.Char n e = narrowed_in kinds.Char n
int_suits kinds.Short n e = narrowed_in kinds.Short n
int_suits kinds.Int n e = refl
int_suits kinds.Long n e = absurd cc
int_suits kinds.Float n e = absurd cc
int_suits kinds.Double n e = absurd cc
int_suits kinds.Reference n e = absurd cc

-- a reference
reference_suits : (v : Value) → kind_of v ≡ operands.Reference → Suits kinds.Reference v
reference_suits (values.Int n) e = absurd cc
reference_suits (values.Long n) e = absurd cc
reference_suits values.Null e = refl
reference_suits (values.Text s) e = refl
reference_suits (values.OfClass c n) e = refl
reference_suits (values.OfThread t n) e = refl
reference_suits values.Out e = refl

pub reference_of : (kind : FieldKind) (v : Value) → operand_kind kind ≡ Some operands.Reference
    → kind_of v ≡ operands.Reference → Suits kind v
reference_of kinds.Boolean v of e = absurd cc
reference_of kinds.Byte v of e = absurd cc
reference_of kinds.Char v of e = absurd cc
reference_of kinds.Short v of e = absurd cc
reference_of kinds.Int v of e = absurd cc
reference_of kinds.Long v of e = absurd cc
reference_of kinds.Float v of e = absurd cc
reference_of kinds.Double v of e = absurd cc
reference_of kinds.Reference v of e = reference_suits v e

-- a long
pub long_of : (kind : FieldKind) (n : ℤ) → operand_kind kind ≡ Some operands.Long → Suits kind (values.Long n)
long_of kinds.Boolean n of = absurd cc
long_of kinds.Byte n of = absurd cc
long_of kinds.Char n of = absurd cc
long_of kinds.Short n of = absurd cc
long_of kinds.Int n of = absurd cc
long_of kinds.Long n of = refl
long_of kinds.Float n of = absurd cc
long_of kinds.Double n of = absurd cc
long_of kinds.Reference n of = absurd cc

by_kind : (kind : FieldKind) (v : Value) → operand_kind kind ≡ Some (kind_of v) → Suits kind (narrowed_value kind v)
by_kind kind (values.Int n) of = int_suits kind n of
by_kind kind (values.Long n) of = long_of kind n of
by_kind kind values.Null of = reference_of kind values.Null of refl
by_kind kind (values.Text s) of = reference_of kind (values.Text s) of refl
by_kind kind (values.OfClass c n) of = reference_of kind (values.OfClass c n) of refl
by_kind kind (values.OfThread t n) of = reference_of kind (values.OfThread t n) of refl
by_kind kind values.Out of = reference_of kind values.Out of refl

same_kind : (k l : OperandKind) → is_kind k l ≡ true → k ≡ l
same_kind operands.Int operands.Int h = refl
same_kind operands.Long operands.Long h = refl
same_kind operands.Reference operands.Reference h = refl
same_kind k l h = cc

of_kind_is : (k : OperandKind) (v : Value) → IfSome (of_kind k v) (λ w. (w ≡ v) × (k ≡ kind_of v))
unfolding of_kind
of_kind_is k v = by (is_kind k (kind_of v)) refl
  where
    by : (b : Bool) → is_kind k (kind_of v) ≡ b → IfSome (cond b (Some v) None) (λ w. (w ≡ v) × (k ≡ kind_of v))
    by true is = (refl, same_kind k (kind_of v) is)
    by false is = tt

pub stored_suits : (kind : FieldKind) (s : OperandStack) → IfSome (top_stored kind s) (Suits kind)
stored_suits kind s = by (operand_kind kind) refl
  where
    by_value : (k : OperandKind) (v : Value) (o : Option Value) → operand_kind kind ≡ Some k
        → IfSome o (λ w. (w ≡ v) × (k ≡ kind_of v)) → IfSome (option_map (narrowed_value kind) o) (Suits kind)
    by_value k v None of h = tt
    by_value k v (Some w) of h = by_kind kind w (of ∙ ap Some (h.1 ∙ ap kind_of (sym h.0)))

    by_top : (k : OperandKind) (o : Option Value) → operand_kind kind ≡ Some k
        → IfSome (option_map (narrowed_value kind) (as_kind k o)) (Suits kind)
    by_top k None of = tt
    by_top k (Some v) of = by_value k v (of_kind k v) of (of_kind_is k v)

    by : (o : Option OperandKind) → operand_kind kind ≡ o
        → IfSome (option_map (narrowed_value kind) (top_of_kind o s)) (Suits kind)
    by None of = tt
    by (Some k) of = by_top k (top s) of

-- an operand of a kind as it is, where every value of the kind suits
pub operand_suits : (kind : FieldKind) (k : OperandKind) (s : OperandStack) → operand_kind kind ≡ Some k
    → ((v : Value) → k ≡ kind_of v → Suits kind v) → IfSome (top_as k s) (Suits kind)
operand_suits kind k s of all = by_top (top s)
  where
    by_value : (v : Value) (o : Option Value) → IfSome o (λ w. (w ≡ v) × (k ≡ kind_of v)) → IfSome o (Suits kind)
    by_value v None h = tt
    by_value v (Some w) h = all w (h.1 ∙ ap kind_of (sym h.0))

    by_top : (o : Option Value) → IfSome (as_kind k o) (Suits kind)
    by_top None = tt
    by_top (Some v) = by_value v (of_kind k v) (of_kind_is k v)

pub name_suits : (s : OperandStack) → IfSome (top_as operands.Reference s) (Suits kinds.Reference)
name_suits s = operand_suits kinds.Reference operands.Reference s refl (λ v e. reference_suits v (sym e))

pub ordinal_suits : (s : OperandStack) → IfSome (top_as operands.Int s) (Suits kinds.Int)
ordinal_suits s = operand_suits kinds.Int operands.Int s refl (λ v e. any_int v (sym e))
  where
    any_int : (v : Value) → kind_of v ≡ operands.Int → Suits kinds.Int v
    any_int (values.Int n) e = refl
    any_int (values.Long n) e = absurd cc
    any_int values.Null e = absurd cc
    any_int (values.Text s) e = absurd cc
    any_int (values.OfClass c n) e = absurd cc
    any_int (values.OfThread t n) e = absurd cc
    any_int values.Out e = absurd cc

-- what it begins as
pub zero_suits : (kind : FieldKind) → has_value kind ≡ true → Suits kind (zero_of kind)
zero_suits kinds.Boolean e = refl
zero_suits kinds.Byte e = refl
zero_suits kinds.Char e = refl
zero_suits kinds.Short e = refl
zero_suits kinds.Int e = refl
zero_suits kinds.Long e = refl
zero_suits kinds.Float e = absurd cc
zero_suits kinds.Double e = absurd cc
zero_suits kinds.Reference e = refl
