use Rattle.std.proofs.Common.{inl}
use Rattle.wave_scheduler.proofs.finding.outcome_now.Goals as goal

pub returns-in-Some-outcome_of : goal.returns-in-Some-outcome_of
returns-in-Some-outcome_of g c = inl (rw (c.requires.lent, c.requires.budget) c.in-Some-outcome_of.ensures)
