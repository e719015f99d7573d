use Rattle.std.proofs.Common.{arith, ◌∙◌}
use Rattle.hierarchy.proofs.DepthFirstLemmas.{parents_came, came_next, came_whole}
use Rattle.hierarchy.proofs.depth_first.put_all.Goals as goal

pub put-requires-clause-above : goal.put-requires-clause-above
put-requires-clause-above c =
    parents_came c.args.family.now c.parents_first-order.result.now c.loop-class.placed.items c.loop-class.class-index
    c.parents_first-order.ensures (omega arith) c.loop-class.invariant.came

pub loop-class-preserved : goal.loop-class-preserved
loop-class-preserved c = record {
  limit = c.in_ok-put.ensures.limit ∙ c.loop-class.invariant.limit;
  len = c.in_ok-put.ensures.len ∙ c.loop-class.invariant.len;
  came = came_next c.parents_first-order.result.now c.loop-class.placed.items c.put.new.placed.items
      c.loop-class.class-index (omega arith) c.loop-class.invariant.came c.in_ok-put.ensures.kept
      c.in_ok-put.ensures.placed;
  holds = c.in_ok-put.ensures.holds c.loop-class.invariant.holds;
}

pub returns-clause-whole : goal.returns-clause-whole
returns-clause-whole c =
    came_whole c.args.family.now c.parents_first-order.result.now c.loop-class.placed.items c.loop-class.class-index
    (omega arith) c.parents_first-order.ensures c.loop-class.invariant.came
