use Rattle.std.proofs.Common.{◌≡◌, ℕ, ◌<◌, length, get_or, slice_get, Some}
use Rattle.loading.specs.Names.{text_at}
use Rattle.hierarchy.specs.Texts.{AreDistinct}
use Rattle.hierarchy.specs.steps.GrowingTexts.{KeepsNumbers}
use Rattle.hierarchy.proofs.pool_texts.add_numbers.Given as goal

-- the texts that came have numbers
abbrev pub invariant-loop-constant : goal.invariant-loop-constant
invariant-loop-constant l = record {
  keeps : KeepsNumbers l.initial.texts l.texts;
  distinct : AreDistinct l.initial.texts → AreDistinct l.texts;
  count : length l.numbers.items ≡ l.constant-index;
  there : (i : ℕ) → i < l.constant-index → slice_get l.texts (get_or l.numbers.items i 0) ≡ Some (text_at l.file i);
}
