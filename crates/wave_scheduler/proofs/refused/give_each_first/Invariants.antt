use Rattle.std.proofs.Common.{map}
use Rattle.wave_scheduler.specs.Outcomes.{outcome_of}
use Rattle.wave_scheduler.specs.steps.Finding.{GivesFirstBelow}
use Rattle.wave_scheduler.proofs.refused.give_each_first.Given as goal

abbrev pub invariant-loop-class : goal.invariant-loop-class
invariant-loop-class l = GivesFirstBelow l.first l.class (map outcome_of l.initial.verdicts) (map outcome_of l.verdicts)
