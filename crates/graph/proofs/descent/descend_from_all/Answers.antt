use Rattle.std.proofs.Common.{arith}
use Rattle.std.specs.List.{Contains}
use Rattle.graph.proofs.DescendingLemmas.{one_more, descent_done}
use Rattle.graph.proofs.descent.descend_from_all.Goals as goal

pub loop-root-preserved : goal.loop-root-preserved
loop-root-preserved c = record {
  limit = c.in_ok-descend_from.ensures.limit;
  passed = c.in_ok-descend_from.ensures.passed;
  empty = c.in_ok-descend_from.ensures.empty;
  descending = c.in_ok-descend_from.ensures.descending;
  seen = one_more (λ v. Contains c.descend_from.new.descent.seen.items v) c.loop-root.root
      (λ v h. c.in_ok-descend_from.ensures.keeps v (c.loop-root.invariant.seen v h)) c.in_ok-descend_from.ensures.has;
}

pub returns : goal.returns
returns c =
    descent_done c.args.graph.now c.loop-root.descent.seen.items c.loop-root.descent.passed.items
    c.loop-root.descent.finished.items
    (λ v h. c.loop-root.invariant.seen v (omega arith)) c.loop-root.invariant.descending
