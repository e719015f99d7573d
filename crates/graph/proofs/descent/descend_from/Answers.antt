use Rattle.std.proofs.Common.{ap, length, ◌∙◌}
use Rattle.graph.proofs.descent.descend_from.Goals as goal

pub loop-descent-init : goal.loop-descent-init
loop-descent-init c = record {
  limit = c.enter.ensures.limit;
  passed = ap length c.enter.ensures.passed ∙ c.requires.passed;
  descending = c.in_ok-enter.ensures.descending;
  has = c.in_ok-enter.ensures.has;
  keeps = c.in_ok-enter.ensures.keeps;
}

pub loop-descent-preserved : goal.loop-descent-preserved
loop-descent-preserved c = record {
  limit = c.in_ok-step.ensures.limit;
  passed = c.in_ok-step.ensures.passed;
  descending = c.in_ok-step.ensures.descending;
  has = c.in_ok-step.ensures.keeps c.args.root c.loop-descent.invariant.has;
  keeps = λ x h. c.in_ok-step.ensures.keeps x (c.loop-descent.invariant.keeps x h);
}

pub loop-descent-smaller : goal.loop-descent-smaller
loop-descent-smaller c = c.in_ok-step.ensures.nearer

pub returns-clause-keeps : goal.returns-clause-keeps
returns-clause-keeps c = c.loop-descent.invariant.keeps

pub returns-clause-has : goal.returns-clause-has
returns-clause-has c = c.loop-descent.invariant.has
