use Rattle.wave_scheduler.specs.Outcomes.{settled_of}
use Rattle.options.specs.steps.Unmet.{NoneUnacceptedBelow}
use Rattle.options.proofs.checking.check.Given as goal

abbrev pub invariant-loop-class : goal.invariant-loop-class
invariant-loop-class l = NoneUnacceptedBelow l.demand (settled_of l.settled) l.class
