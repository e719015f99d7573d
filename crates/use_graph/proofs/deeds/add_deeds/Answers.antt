use Rattle.std.proofs.Common.{◌∙◌, ap}
use Rattle.use_graph.specs.steps.Deeds.{deed_for}
use Rattle.use_graph.proofs.DeedsLemmas.{deed_is, deeds_more}
use Rattle.use_graph.proofs.deeds.add_deeds.Goals as goal

pub loop-item-preserved : goal.loop-item-preserved
loop-item-preserved c =
    deeds_more c.args.program.now c.args.class c.args.method c.args.items.now c.args.deeds.now.items
    c.loop-item.deeds.items c.push.new.self.items c.loop-item.item-index c.item-item.result c.deed_of.result
    c.loop-item-test.true c.loop-item.invariant c.in_ok-push.ensures.items
    (deed_is c.args.program.now c.args.class c.args.method c.item-item.result c.deed_of.result c.deed_of.ensures.pc
    c.deed_of.ensures.needs c.deed_of.ensures.callee c.deed_of.ensures.feature
    ∙ ap (deed_for c.args.program.now c.args.class c.args.method) c.item-item.is)
