use Rattle.wave_scheduler.specs.Outcomes.{settled_of}
use Rattle.wave_scheduler.specs.steps.Tainting.{SeesOver}
use Rattle.wave_scheduler.proofs.tainted.Tainted.add_all_refused.Given as goal

abbrev pub invariant-loop-class : goal.invariant-loop-class
invariant-loop-class l =
    SeesOver (settled_of l.settled) l.initial.self.dependents l.initial.self.first l.class l.self
