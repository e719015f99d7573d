-- Bars, one more.
use Rattle.std.proofs.Common.{◌≡◌, ◌∙◌, ℕ, List, ◌++◌, codes, inl, inr, string_bytes, subst, sym}
use Rattle.std.specs.Fmt.{decimal}
use Rattle.std.specs.List.{All, count_by}
use Rattle.std.proofs.lemmas.List.Elements.{All-push}
use Rattle.initializer_analysis.specs.declared.verdict.Verdict.{Verdict}
use Rattle.report_page.specs.Counts.{is_from_wave, is_of_wave, IsBarAdded, IsWaveBar}
use Rattle.report_page.specs.declared.bars.Bar.{Bar}

-- what holds of those that were there, and of each of this label and this count
pub added_all : (Is : Bar → Type 0) (old new : List Bar) (text : List ℕ) (count : ℕ) → All Is old
    → ((bar : Bar) → string_bytes bar.label ≡ text → bar.count ≡ count → Is bar) → IsBarAdded old text count new
    → All Is new
added_all Is old new text count all one added =
    subst (λ (bars : List Bar). All Is bars) (sym added.added)
    (All-push Is old added.bar all (one added.bar added.label added.count))

-- that of a wave
pub wave_added : (verdicts : List Verdict) (wave : ℕ) (old new : List Bar) (text : List ℕ) (count : ℕ)
    → All (IsWaveBar verdicts) old → text ≡ codes "wave " ++ decimal wave → count ≡ count_by (is_of_wave wave) verdicts
    → IsBarAdded old text count new → All (IsWaveBar verdicts) new
wave_added verdicts wave old new text count all is counts added =
    added_all (IsWaveBar verdicts) old new text count all
    (λ bar label number. inl (wave, label ∙ is, number ∙ counts)) added

-- that of all later ones
pub later_added : (verdicts : List Verdict) (wave : ℕ) (old new : List Bar) (text : List ℕ) (count : ℕ)
    → All (IsWaveBar verdicts) old → text ≡ codes "waves from " ++ decimal wave
    → count ≡ count_by (is_from_wave wave) verdicts → IsBarAdded old text count new → All (IsWaveBar verdicts) new
later_added verdicts wave old new text count all is counts added =
    added_all (IsWaveBar verdicts) old new text count all
    (λ bar label number. inr (wave, label ∙ is, number ∙ counts)) added
