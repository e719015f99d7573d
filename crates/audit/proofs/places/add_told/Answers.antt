use Rattle.std.proofs.Common.{◌≤◌, length, arith}
use Rattle.use_graph.proofs.CollectedLemmas.{collected_more, collected_all}
use Rattle.audit.specs.steps.Reaching.{IsToldPlace}
use Rattle.audit.proofs.places.add_told.Goals as goal

pub loop-item-preserved : goal.loop-item-preserved
loop-item-preserved c =
    collected_more (IsToldPlace c.args.method) c.args.told.now c.args.places.now.items c.loop-item.places.items
    c.add_one.new.places.items c.loop-item.item-index _ c.loop-item-test.true c.loop-item.invariant
    c.in_ok-add_one.ensures

pub returns : goal.returns
returns c =
    let whole : length c.args.told.now ≤ c.loop-item.item-index = omega arith in
    collected_all (IsToldPlace c.args.method) c.args.told.now c.args.places.now.items c.loop-item.places.items
    c.loop-item.item-index whole c.loop-item.invariant
