use Rattle.init_engine.proofs.StartLemmas.{lazy_shares}
use Rattle.init_engine.proofs.starting.lazy_shared.Goals as goal

pub returns : goal.returns
returns c =
    lazy_shares c.args.program.now c.args.count _ _ _ c.in_ok-blank_classes.ensures c.in_ok-heap.ensures c.new.ensures
