-- Sets of given classes, as flags by number.
use Rattle.std.specs.Prelude.{ℕ, Bool, false, List, slice_index_or}

-- whether a class is a member: a number beyond the flags is none
abbrev pub has_class : List Bool → ℕ → Bool
has_class flags class = slice_index_or flags class false
