-- Access flags (JVMS 4.1, 4.5, 4.6).
use Rattle.std.specs.Prelude.{ℕ, Bool, not, ◌||◌, bit_and, ◌==◌}

abbrev pub has_flag : ℕ → ℕ → Bool
has_flag flags flag = not (bit_and flags flag == 0)

-- NATIVE or ABSTRACT
abbrev pub has_no_body : ℕ → Bool
has_no_body flags = has_flag flags 256 || has_flag flags 1024
