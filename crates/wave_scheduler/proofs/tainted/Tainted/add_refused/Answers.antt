use Rattle.wave_scheduler.specs.Settled.{IsAccepted}
use Rattle.wave_scheduler.specs.Outcomes.{settled_of}
use Rattle.wave_scheduler.proofs.TaintedLemmas.{spreads_if, refused_here}
use Rattle.wave_scheduler.proofs.tainted.Tainted.add_refused.Goals as goal

pub returns-in_ok-add-in-Refused : goal.returns-in_ok-add-in-Refused
returns-in_ok-add-in-Refused c =
    spreads_if c.args.class (¬ IsAccepted (settled_of c.args.settled.now) c.args.class) c.args.self.now c.add.new.self
    (refused_here c.args.settled.now c.args.class c.in-Refused.field-0 _ c.requires.class
    (rw c.as_slice.ensures at c.in-Refused.is)) c.in_ok-add-in-Refused.ensures
