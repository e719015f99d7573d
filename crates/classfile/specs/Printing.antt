-- Texts for a reader: the units that modified UTF-8 spells (JVMS 4.4.7), and the UTF-8 of units.
use Rattle.std.specs.Prelude.{ℕ, ◌+◌, ◌*◌, ◌%◌, List, [], ◌∷◌, map, nat_lt, unwrap_or, if◌then◌else◌}
use Rattle.std.specs.Str.{encode_utf8_all}
use Rattle.std.specs.Char.Utf16.{utf16_chars}

-- the unit that two bytes spell, by their last bits
abbrev pub unit_of_two : ℕ → ℕ → ℕ
unit_of_two a b = a % 32 * 64 + b % 64

-- and the one of three bytes
abbrev pub unit_of_three : ℕ → ℕ → ℕ → ℕ
unit_of_three a b c = a % 16 * 4096 + b % 64 * 64 + c % 64

-- The units that the bytes spell. The first byte of each tells how many bytes it has: one below 192, two below 224,
-- otherwise three. Bytes that spell nothing are read all the same, and what they give means nothing.
unfoldable pub units_of : List ℕ → List ℕ
units_of [] = []
units_of (a ∷ []) = if nat_lt a 192 then a ∷ [] else []
units_of (a ∷ b ∷ []) =
    if nat_lt a 192 then a ∷ units_of (b ∷ []) else (if nat_lt a 224 then unit_of_two a b ∷ [] else [])
units_of (a ∷ b ∷ c ∷ rest) =
    if nat_lt a 192 then a ∷ units_of (b ∷ c ∷ rest) else
    (if nat_lt a 224 then unit_of_two a b ∷ units_of (c ∷ rest) else unit_of_three a b c ∷ units_of rest)

-- The characters of 16-bit units: one of each pair of surrogates, and `?` (63) of a surrogate that has no partner.
abbrev pub printed_chars : List ℕ → List ℕ
printed_chars units = map (λ o. unwrap_or o 63) (utf16_chars units)

-- the same in UTF-8
abbrev pub printed_units : List ℕ → List ℕ
printed_units units = encode_utf8_all (printed_chars units)
