-- Text in HTML.
use Rattle.std.specs.Prelude.{◌≢◌, ℕ, ◌==◌, List, if◌then◌else◌, codes}
use Rattle.std.specs.List.{flat_map}
use Rattle.std.specs.Char.{encode_utf8}
use Rattle.std.specs.Str.{chars}

-- what stands for a character, in UTF-8: each that could begin or end markup or the value of an attribute is escaped
abbrev pub escape : ℕ → List ℕ
escape c =
    if c == 38 then codes "&amp;" else
    (if c == 60 then codes "&lt;" else
    (if c == 62 then codes "&gt;" else
    (if c == 34 then codes "&quot;" else
    (if c == 39 then codes "&#39;" else encode_utf8 c))))

abbrev pub escaped : List ℕ → List ℕ
escaped text = flat_map escape (chars text)

-- a byte that begins or ends no markup and no value of an attribute
abbrev pub IsPlain : ℕ → Type 0
IsPlain b = (b ≢ 60) × (b ≢ 62) × (b ≢ 34) × (b ≢ 39)
