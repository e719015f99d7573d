-- Which values the fields and the elements of a type hold (JVMS 2.3, 2.4).
use Rattle.std.specs.Prelude.{ℕ, ℤ, pos, negsuc, ◌^◌, nat_lt, Bool, true, ◌&&◌}
use Rattle.vm_state.specs.declared.value.Value.{Value}
use Rattle.vm_state.specs.declared.value.Value.TheVariants as values
use Rattle.program.specs.declared.runtime_constant.FieldKind.{FieldKind}
use Rattle.program.specs.declared.runtime_constant.FieldKind.TheVariants as kinds
use Rattle.machine.specs.Calls.{is_argument}

-- ---- ints

-- one of so many numbers from zero up, or of so many from minus one down
abbrev pub is_among : ℕ → ℕ → ℤ → Bool
is_among up down (pos n) = nat_lt n up
is_among up down (negsuc n) = nat_lt n down

-- within the range of a type that is held as ints; of int itself every one is (a value's int has 32 bits)
abbrev pub is_in_range : FieldKind → ℤ → Bool
is_in_range kinds.Boolean n = is_among 2 0 n
is_in_range kinds.Byte n = is_among (2 ^ 7) (2 ^ 7) n
is_in_range kinds.Char n = is_among (2 ^ 16) 0 n
is_in_range kinds.Short n = is_among (2 ^ 15) (2 ^ 15) n
is_in_range _ n = true

abbrev pub is_value_in_range : FieldKind → Value → Bool
is_value_in_range kind (values.Int n) = is_in_range kind n
is_value_in_range kind _ = true

-- ---- all values

-- An int within the type's range for boolean, byte, char, short and int; a long for long; null, a string, an object's
-- name or `System.out` for references. Of float and double there is none.
abbrev pub suits : FieldKind → Value → Bool
suits kind v = is_argument kind v && is_value_in_range kind v
