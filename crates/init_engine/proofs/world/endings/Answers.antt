use Rattle.std.proofs.Common.{ap, ◌∙◌}
use Rattle.init_engine.proofs.MapLemmas.{map_pushed}
use Rattle.init_engine.specs.Threads.{seen_of}
use Rattle.init_engine.proofs.world.endings.Goals as goal

pub loop-thread-preserved : goal.loop-thread-preserved
loop-thread-preserved c =
    map_pushed seen_of c.args.threads.now c.loop-thread.thread-index c.thread-item.result _ _ _ c.loop-thread-test.true
    c.loop-thread.invariant c.in_ok-push.ensures.items (c.ending.ensures ∙ ap seen_of c.thread-item.is)
