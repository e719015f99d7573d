use Rattle.std.proofs.Common.{◌∙◌, ℕ, List, ◌++◌, ap, string_bytes}
use Rattle.explain.specs.Texts.{IsTextAmongAll}
use Rattle.explain.proofs.TextsLemmas.{each_grown}
use Rattle.explain.proofs.lines.each_text.Goals as goal

pub loop-class-preserved : goal.loop-class-preserved
loop-class-preserved c = record {
  known = c.class_text.ensures.known;
  each = each_grown (IsTextAmongAll c.args.image.now c.args.verdicts.now c.args.forced.now) c.loop-class.class
      (string_bytes c.loop-class.text) (string_bytes c.in_ok-lines.lines) (string_bytes c.push_str.new.self)
      c.loop-class.invariant.each c.in_ok-lines.ensures.text
      (c.in_ok-push_str.ensures.bytes
      ∙ ap (λ (t : List ℕ). string_bytes c.loop-class.text ++ t) c.as_str.ensures.value);
}
