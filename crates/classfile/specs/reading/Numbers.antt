-- Numbers and runs at the front of what is left of a file of so many bytes.
use Rattle.std.specs.Prelude.{ℕ, List, length, take, drop, Result, Ok, Err, nat_lt, if◌then◌else◌}
use Rattle.std.specs.Int.{Width, byte_len, from_be_bytes}
use Rattle.classfile.specs.declared.fault.ClassFault.{ClassFault}
use Rattle.classfile.specs.declared.fault.ClassFault.TheVariants as faults
use Rattle.classfile.specs.Gives.{offset}

infixl 10 ◌>>=◌
abbrev pub ◌>>=◌ : {A B E : Type 0} → Result A E → (A → Result B E) → Result B E
(Ok x) >>= f = f x
(Err e) >>= f = Err e

-- A field is a value and the bytes after it.
abbrev pub number_at : Width → ℕ → List ℕ → Result (ℕ × List ℕ) ClassFault
number_at w total bytes = if nat_lt (length bytes) (byte_len w) then Err (faults.Truncated (offset total bytes))
    else Ok (from_be_bytes w (take (byte_len w) bytes), drop (byte_len w) bytes)

abbrev pub run_at : ℕ → ℕ → List ℕ → Result (List ℕ × List ℕ) ClassFault
run_at count total bytes = if nat_lt (length bytes) count then Err (faults.Truncated (offset total bytes))
    else Ok (take count bytes, drop count bytes)

-- a fault inside the attribute at so many bytes from the file's start
abbrev pub inside_attribute : ClassFault → ℕ → ClassFault
inside_attribute faults.Memory at = faults.Memory
inside_attribute e at = faults.Attribute at
