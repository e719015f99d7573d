-- Modified UTF-8: each unit in its one spelling.
use Rattle.std.specs.Prelude.{ℕ, ◌+◌, Bool, true, false, ◌&&◌, ◌||◌, List, [], ◌∷◌, nat_lt, nat_eq, if◌then◌else◌}

-- b is from a on and below c
abbrev pub between : ℕ → ℕ → ℕ → Bool
between a b c = nat_lt a (b + 1) && nat_lt b c

unfoldable pub is_one : ℕ → Bool
is_one a = between 1 a 128

-- 110xxxxx 10xxxxxx: zero, or from 128 on
unfoldable pub is_two : ℕ → ℕ → Bool
is_two a b = between 128 b 192 && (between 194 a 224 || (nat_eq a 192 && nat_eq b 128))

-- 1110xxxx 10xxxxxx 10xxxxxx: from 2048 on
unfoldable pub is_three : ℕ → ℕ → ℕ → Bool
is_three a b c = between 224 a 240 && between 128 b 192 && between 128 c 192 && (nat_lt 224 a || nat_lt 159 b)

unfoldable pub is_modified : List ℕ → Bool
is_modified [] = true
is_modified (a ∷ []) = is_one a
is_modified (a ∷ b ∷ []) = if is_one a then is_modified (b ∷ []) else is_two a b
is_modified (a ∷ b ∷ c ∷ rest) =
    if is_one a then is_modified (b ∷ c ∷ rest) else (if is_two a b then is_modified (c ∷ rest)
    else (if is_three a b c then is_modified rest else false))

abbrev pub all_one : List ℕ → Bool
all_one [] = true
all_one (a ∷ rest) = is_one a && all_one rest
