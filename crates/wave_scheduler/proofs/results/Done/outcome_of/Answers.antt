use Rattle.std.proofs.Common.{ℕ, subst}
use Rattle.machine.specs.Linked.{program_of}
use Rattle.region_shape.specs.Regions.{environment_of}
use Rattle.evaluator.specs.Outcomes.{IsOutcome}
use Rattle.wave_scheduler.proofs.results.Done.outcome_of.Goals as goal

pub returns-then-self-class : goal.returns-then-self-class
returns-then-self-class g c =
    subst (λ (class : ℕ). IsOutcome (program_of g.W.Lent.program) (environment_of g.W.Lent.regions) class
    g.W.Lent.budget c.self.inside.outcome) c.if-self-class.true c.self.invariant
