use Rattle.std.proofs.Common.{ℕ, List, length, sym, ap, ◌∙◌, subst, arith}
use Rattle.std.specs.List.{Contains}
use Rattle.hierarchy.proofs.AscentsOrderLemmas.{none_in_empty}
use Rattle.hierarchy.proofs.ancestors.Ancestors.new.Goals as goal

pub invariant_of-result : goal.invariant_of-result
invariant_of-result c = record {
  entered = c.in_ok-ascent.ensures.entered ∙ sym (ap length c.new-2.ensures.items);
  left = c.in_ok-ascent.ensures.left ∙ sym (ap length c.new-2.ensures.items);
  few = omega (arith, ap length c.new-2.ensures.items);
  noted = λ d has.
      absurd (none_in_empty d (subst (λ (l : List ℕ). Contains l d) c.in_ok-ascent.ensures.empty has));
}
