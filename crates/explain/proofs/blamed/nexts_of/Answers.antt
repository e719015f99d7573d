use Rattle.std.proofs.Common.{ℕ, ◌+◌, ◌∙◌, List, length, sym, ap, subst}
use Rattle.std.proofs.lemmas.List.{length_push}
use Rattle.explain.specs.Chains.{Leads}
use Rattle.explain.specs.steps.Roots.{AreRoots}
use Rattle.explain.proofs.RootsLemmas.{at_or, roots_push}
use Rattle.explain.proofs.blamed.nexts_of.Goals as goal

pub loop-class-preserved : goal.loop-class-preserved
loop-class-preserved c = record {
  are = subst (λ (l : List ℕ). AreRoots c.args.verdicts.now l) (sym c.in_ok-push.ensures.items)
      (roots_push c.args.verdicts.now c.loop-class.nexts.items c.next_of.result c.loop-class.invariant.are
      (subst (λ (n : ℕ). Leads c.args.verdicts.now n c.next_of.result) (sym c.loop-class.invariant.count)
      (c.next_of.ensures c.args.verdicts.now
      (at_or c.args.verdicts.now c.loop-class.class _ c.loop-class-test.true))));
  count = ap length c.in_ok-push.ensures.items
      ∙ length_push c.loop-class.nexts.items c.next_of.result
      ∙ ap (λ (n : ℕ). n + 1) c.loop-class.invariant.count;
}
