use Rattle.std.proofs.Common.{◌+◌, ap, length, ◌∙◌, arith}
use Rattle.std.proofs.lemmas.List.{length_push}
use Rattle.hierarchy.proofs.InterfaceOrdersLemmas.{flagged_next}
use Rattle.hierarchy.proofs.initialized_first.initialized_first.Goals as goal

pub loop-class-preserved : goal.loop-class-preserved
loop-class-preserved c =
    let old = c.loop-class.flags.items in
    let new = c.push.new.self.items in
    let flagged = c.is_initialized_first.result in
    let push = c.in_ok-push.ensures.items in
    let was = c.loop-class.invariant in
    record {
      count = ap length push ∙ length_push old flagged ∙ ap (λ n. n + 1) was.count;
      tell = flagged_next c.args.family.now old new flagged c.loop-class.class push was.count
          c.is_initialized_first.ensures was.tell;
    }

pub returns : goal.returns
returns c = record {
  count = omega (arith, c.loop-class.invariant.count, ap length c.classes-count.ensures.value);
  tell = c.loop-class.invariant.tell;
}
