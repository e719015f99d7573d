-- What is held of values that are read without a string.
use Rattle.std.proofs.Common.{◌≡◌, ◌∙◌, ℕ, ℤ, true, List, Result, Ok, refl, sym, ap, subst}
use Rattle.std.specs.Int.{w32, w64, cast_signed}
use Rattle.vm_state.specs.declared.value.Value.{Value}
use Rattle.vm_state.specs.declared.value.Value.TheVariants as machine
use Rattle.program.specs.declared.runtime_constant.FieldKind.{FieldKind}
use Rattle.program.specs.Tables.{Tables}
use Rattle.image_format.specs.Shapes.{is_in_range}
use Rattle.image_format.specs.Values.{ImageValue}
use Rattle.image_format.specs.Values as values
use Rattle.image_parser.specs.declared.fault.RegionFault.{RegionFault}
use Rattle.image_parser.specs.reading.Held.{HoldsValue}
use Rattle.image_parser.specs.reading.Reads.{IsHeld}
use Rattle.image_parser.specs.reading.Results.{number_at}
use Rattle.image_parser.specs.reading.Values.{int_at, long_at, made_at, reference_at}
use Rattle.image_parser.proofs.ReadsLemmas.{held_plain}

-- a value with what stands after it
abbrev IsRead : Tables → Value → List ℕ → Result (ImageValue × List ℕ) RegionFault → Type 0
IsRead P v rest read = IsHeld HoldsValue P P v (λ told. (told, rest)) read

abbrev with_rest : List ℕ → ImageValue → Result (ImageValue × List ℕ) RegionFault
with_rest rest told = Ok (told, rest)

pub int_held : (P : Tables) (kind : FieldKind) (bytes rest : List ℕ) (bits : ℕ) (n m : ℤ)
    → number_at w32 bytes ≡ Ok (bits, rest) → is_in_range kind m ≡ true → m ≡ cast_signed w32 bits
    → n ≡ cast_signed w32 bits → IsRead P (machine.Int n) rest (int_at kind bytes)
unfolding int_at
int_held P kind bytes rest bits n m read within number same =
    let fits : is_in_range kind (cast_signed w32 bits) ≡ true =
    subst (λ (k : ℤ). is_in_range kind k ≡ true) number within in
    let is : int_at kind bytes ≡ Ok (values.Int (cast_signed w32 bits), rest) = rw (read, fits) refl in
    held_plain HoldsValue P (machine.Int n) (λ told. (told, rest)) (int_at kind bytes) (values.Int n)
    (is ∙ ap (λ (m : ℤ). with_rest rest (values.Int m)) (sym same)) refl

pub long_held : (P : Tables) (bytes rest : List ℕ) (bits : ℕ) (n : ℤ) → number_at w64 bytes ≡ Ok (bits, rest)
    → n ≡ cast_signed w64 bits → IsRead P (machine.Long n) rest (long_at bytes)
long_held P bytes rest bits n read same =
    let is : long_at bytes ≡ Ok (values.Long (cast_signed w64 bits), rest) = rw read refl in
    held_plain HoldsValue P (machine.Long n) (λ told. (told, rest)) (long_at bytes) (values.Long n)
    (is ∙ ap (λ (m : ℤ). with_rest rest (values.Long m)) (sym same)) refl

pub reference_held : (P : Tables) (bytes middle rest : List ℕ) (class number : ℕ)
    → number_at w32 bytes ≡ Ok (class, middle) → number_at w32 middle ≡ Ok (number, rest)
    → IsRead P (machine.OfClass class number) rest (reference_at bytes)
unfolding reference_at
reference_held P bytes middle rest class number first second =
    held_plain HoldsValue P (machine.OfClass class number) (λ told. (told, rest)) (reference_at bytes)
    (values.Object class number) (rw (first, second) refl) refl

-- a number, made an int
pub made_held : (P : Tables) (make : ℕ → ImageValue) (bits : ℕ) (n : ℤ) (rest : List ℕ)
    (read : Result (ℕ × List ℕ) RegionFault) → read ≡ Ok (bits, rest) → make bits ≡ values.Int n
    → IsRead P (machine.Int n) rest (made_at make read)
made_held P make bits n rest read is made =
    let all : made_at make read ≡ Ok (make bits, rest) = rw is refl in
    held_plain HoldsValue P (machine.Int n) (λ told. (told, rest)) (made_at make read) (values.Int n)
    (all ∙ ap (with_rest rest) made) refl
