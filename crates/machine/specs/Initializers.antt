-- Class initialization methods, as instructions meet them (JVMS 2.9).
use Rattle.std.specs.Prelude.{ℕ, ◌==◌, Bool, false, Option, Some, None}

-- whether a method is the one of a place
abbrev pub is_method : ℕ → Option ℕ → Bool
is_method m None = false
is_method m (Some i) = i == m
