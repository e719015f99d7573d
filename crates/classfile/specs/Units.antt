-- Modified UTF-8, unit by unit (JVMS 4.4.7).
use Rattle.std.specs.Prelude.{◌≡◌, ℕ, ◌+◌, ◌<◌, ◌^◌, ◌/◌, ◌%◌, ◌&&◌, List, [], ◌∷◌, nat_lt, if◌then◌else◌}
use Rattle.std.specs.List.{flat_map, All}

-- The one spelling of a 16-bit unit: U+0001 to U+007F in one byte, U+0000 and U+0080 to U+07FF in two, the others in
-- three. A surrogate is spelled by itself.
abbrev pub unit_text : ℕ → List ℕ
unit_text unit =
    if nat_lt 0 unit && nat_lt unit 128 then unit ∷ [] else
    (if nat_lt unit 2048 then (192 + unit / 64) ∷ (128 + unit % 64) ∷ [] else
    (224 + unit / 4096) ∷ (128 + unit / 64 % 64) ∷ (128 + unit % 64) ∷ [])

-- the spelling of units in order
abbrev pub units_text : List ℕ → List ℕ
units_text units = flat_map unit_text units

-- The text is the spelling of some units.
pub record IsModifiedUtf8 (text : List ℕ) : Type 0 where
  pub units : List ℕ
  pub each : All (λ unit. unit < 2 ^ 16) units
  pub spelled : text ≡ units_text units
