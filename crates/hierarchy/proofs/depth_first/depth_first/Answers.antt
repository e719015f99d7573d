use Rattle.std.proofs.Common.{arith, ap, length}
use Rattle.hierarchy.proofs.DepthFirstLemmas.{nothing_placed, whole_order}
use Rattle.hierarchy.proofs.depth_first.depth_first.Goals as goal

pub put_all-requires-clause-holds : goal.put_all-requires-clause-holds
put_all-requires-clause-holds c =
    nothing_placed c.args.family.now c.in_ok-placed.placed.items c.in_ok-vec.field-0.items c.in_ok-placed.ensures.items

pub returns : goal.returns
returns c =
    whole_order c.args.family.now c.put_all.new.placed.items c.put_all.new.row.first c.put_all.new.row.behind.items
    c.in_ok-order.order.items c.in_ok-put_all.ensures.holds
    (omega (
      arith,
      c.len-placed.ensures.small,
      c.put_all.ensures.limit,
      c.in_ok-placed.ensures.limit,
      ap length c.classes-count.ensures.value,
    )) (omega (
      arith,
      ap length c.classes-count.ensures.value,
      c.put_all.ensures.len,
      c.in_ok-vec.ensures.len,
    ))
    c.in_ok-put_all.ensures.whole c.in_ok-order.ensures
