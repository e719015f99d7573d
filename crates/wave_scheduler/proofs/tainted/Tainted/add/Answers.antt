use Rattle.wave_scheduler.proofs.TaintedLemmas.{spreads_reached}
use Rattle.wave_scheduler.proofs.tainted.Tainted.add.Goals as goal

pub returns : goal.returns
returns c =
    spreads_reached c.args.class c.args.self.now c.add_reached.new.seen c.add_reached.ensures.limit
    c.in_ok-add_reached.ensures.members
