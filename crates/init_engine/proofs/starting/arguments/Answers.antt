use Rattle.init_engine.proofs.StartLemmas.{one_more}
use Rattle.init_engine.proofs.starting.arguments.Goals as goal

pub loop-preserved : goal.loop-preserved
loop-preserved c =
    one_more c.loop.counter c.loop.heap _ c.argument.result c.argument.ensures c.loop.invariant
    c.in_ok-add_thread.ensures.ok
