-- Texts by number: what one more text changes.
use Rattle.std.proofs.Common.{ℕ, List, [], ◌∷◌, ◌++◌, Some, sym, ap, ◌∙◌, inl, inr}
use Rattle.std.specs.List.{Contains}
use Rattle.hierarchy.specs.Texts.{AreDistinct}
use Rattle.hierarchy.specs.steps.GrowingTexts.{KeepsNumbers}
use Rattle.loading.proofs.PlaceLemmas.{contains_at, pushed_at, kept_at}

-- one more text, which was not among them
pub distinct_push : (texts : List (List ℕ)) (text : List ℕ) → ¬ Contains texts text → AreDistinct texts
    → AreDistinct (texts ++ text ∷ [])
distinct_push texts text new apart i j t at also =
    elim (pushed_at texts text t i at) [
      | inl first ↦ elim (pushed_at texts text t j also) [
        | inl second ↦ apart i j t first second
        | inr last ↦ absurd (new (contains_at texts i text (first ∙ ap Some (sym last.1))))
      ]
      | inr end ↦ elim (pushed_at texts text t j also) [
        | inl second ↦ absurd (new (contains_at texts j text (second ∙ ap Some (sym end.1))))
        | inr last ↦ end.0 ∙ sym last.0
      ]
    ]

pub keeps_push : (texts : List (List ℕ)) (text : List ℕ) → KeepsNumbers texts (texts ++ text ∷ [])
keeps_push texts text i t at = kept_at texts text t i at
