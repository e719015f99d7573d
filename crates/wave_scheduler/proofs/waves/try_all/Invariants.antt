use Rattle.wave_scheduler.specs.Outcomes.{settled_of}
use Rattle.wave_scheduler.specs.steps.Plans.{StandsBefore}
use Rattle.wave_scheduler.proofs.waves.try_all.Given as goal

abbrev pub invariant-loop-number : goal.invariant-loop-number
invariant-loop-number g l = StandsBefore l.terms l.number (settled_of l.settled) l.tainted
