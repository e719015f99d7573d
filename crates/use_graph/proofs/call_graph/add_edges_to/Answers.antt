use Rattle.use_graph.proofs.EdgesLemmas.{led_more}
use Rattle.use_graph.proofs.call_graph.add_edges_to.Goals as goal

pub loop-method-preserved : goal.loop-method-preserved
loop-method-preserved c =
    led_more c.args.numbers.now c.args.graph.now c.loop-method.graph c.add_edge_to.new.graph c.args.from
    c.args.methods.now c.loop-method.method-index c.loop-method-test.true c.loop-method.invariant
    c.add_edge_to.ensures.len c.in_ok-add_edge_to.ensures.extends c.in_ok-add_edge_to.ensures.there
