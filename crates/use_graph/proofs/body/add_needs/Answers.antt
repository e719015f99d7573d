use Rattle.std.proofs.Common.{◌≤◌, length, arith}
use Rattle.use_graph.specs.steps.Deeds.{NeedsSo}
use Rattle.use_graph.proofs.CollectedLemmas.{collected_more, collected_all}
use Rattle.use_graph.proofs.body.add_needs.Goals as goal

pub loop-deed-preserved : goal.loop-deed-preserved
loop-deed-preserved c =
    collected_more NeedsSo c.args.deeds.now c.args.needs.now.items c.loop-deed.needs.items c.add_need.new.needs.items
    c.loop-deed.deed-index _ c.loop-deed-test.true c.loop-deed.invariant c.in_ok-add_need.ensures

pub returns : goal.returns
returns c =
    let whole : length c.args.deeds.now ≤ c.loop-deed.deed-index = omega arith in
    collected_all NeedsSo c.args.deeds.now c.args.needs.now.items c.loop-deed.needs.items c.loop-deed.deed-index whole
    c.loop-deed.invariant
