use Rattle.init_engine.proofs.StartLemmas.{started_over}
use Rattle.init_engine.proofs.world.World.start.Goals as goal

pub returns : goal.returns
returns c P =
    started_over P c.args.classes.now _ c.args.shared _ (c.in_ok-threads.ensures.threads P) c.of_threads.ensures
