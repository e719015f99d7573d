-- How many classes a bar stands for.
use Rattle.std.specs.Prelude.{◌≡◌, ◌⊎◌, ℕ, List, [], ◌∷◌, ◌++◌, Bool, false, nat_eq, nat_le, codes, decimal, string_bytes}
use Rattle.std.specs.List.{count_by}
use Rattle.std.specs.Str.{bytes_eq}
use Rattle.initializer_analysis.specs.Words.{reason_word}
use Rattle.initializer_analysis.specs.declared.verdict.Verdict.{Verdict}
use Rattle.initializer_analysis.specs.declared.verdict.Verdict.TheVariants.{Wave, Refused}
use Rattle.report_page.specs.declared.bars.Bar.{Bar}

-- whether a class is accepted in this wave, or in this one or a later one
abbrev pub is_of_wave : ℕ → Verdict → Bool
is_of_wave wave (Wave n) = nat_eq n wave
is_of_wave wave (Refused reason) = false

abbrev pub is_from_wave : ℕ → Verdict → Bool
is_from_wave wave (Wave n) = nat_le wave n
is_from_wave wave (Refused reason) = false

-- whether a class is left to run time for a reason of this word
abbrev pub is_left_by : List ℕ → Verdict → Bool
is_left_by word (Wave n) = false
is_left_by word (Refused reason) = bytes_eq (reason_word reason) word

-- The bar counts the classes of the wave that its label says, or of all later ones.
abbrev pub IsWaveBar : List Verdict → Bar → Type 0
IsWaveBar verdicts bar =
    ((wave : ℕ) × (string_bytes bar.label ≡ codes "wave " ++ decimal wave)
    × (bar.count ≡ count_by (is_of_wave wave) verdicts))
    ⊎ ((wave : ℕ) × (string_bytes bar.label ≡ codes "waves from " ++ decimal wave)
    × (bar.count ≡ count_by (is_from_wave wave) verdicts))

-- The bar counts the classes of the reason that its label says.
abbrev pub IsReasonBar : List Verdict → Bar → Type 0
IsReasonBar verdicts bar = bar.count ≡ count_by (is_left_by (string_bytes bar.label)) verdicts

-- the same bars, and one more of this label and this count
pub record IsBarAdded (old : List Bar) (text : List ℕ) (number : ℕ) (new : List Bar) : Type 0 where
  pub bar : Bar
  pub label : string_bytes bar.label ≡ text
  pub count : bar.count ≡ number
  pub added : new ≡ old ++ bar ∷ []
