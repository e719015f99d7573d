use Rattle.use_graph.proofs.NumbersLemmas.{adds_one}
use Rattle.use_graph.proofs.numbers.number_class.Goals as goal

pub loop-index-preserved : goal.loop-index-preserved
loop-index-preserved c =
    rw c.in_ok-push.ensures.items
    (adds_one c.args.class c.loop-index.index c.args.methods.now.items c.loop-index.methods.items
    c.loop-index.invariant)
