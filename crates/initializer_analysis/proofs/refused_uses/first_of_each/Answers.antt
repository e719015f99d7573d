use Rattle.std.proofs.Common.{arith}
use Rattle.initializer_analysis.proofs.RefusedUsesLemmas.{firsts_more, firsts_count}
use Rattle.initializer_analysis.proofs.refused_uses.first_of_each.Goals as goal

pub loop-class-preserved : goal.loop-class-preserved
loop-class-preserved c = record {
  len = firsts_count c.loop-class.first.items c.push.new.self.items c.first_refused_by.result c.loop-class.class
      c.loop-class.invariant.len c.in_ok-push.ensures.items;
  below = firsts_more c.args.program.now c.args.refused.now c.loop-class.class c.loop-class.first.items
      c.push.new.self.items c.first_refused_by.result c.loop-class.invariant.len c.in_ok-push.ensures.items
      c.loop-class.invariant.below c.first_refused_by.ensures;
}

pub returns : goal.returns
returns c = record {
  count = omega (arith, c.loop-class.invariant.len, c.given_count-limit.ensures.value);
  each = λ k small. c.loop-class.invariant.below k (omega (arith, c.given_count-limit.ensures.value));
}
