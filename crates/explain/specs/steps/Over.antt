-- Initializers that are stopped for their cost.
use Rattle.std.specs.Prelude.{◌≡◌}
use Rattle.semantics.specs.Quiet.{OverBudget, Refused}
use Rattle.evaluator.specs.declared.outcome.Evaluation.{Evaluation}
use Rattle.evaluator.specs.declared.outcome.Evaluation.TheVariants as evaluations
use Rattle.evaluator.specs.Outcomes.{stop_of}

abbrev pub IsOver : Evaluation → Type 0
IsOver (evaluations.Settled region) = ⊥
IsOver (evaluations.Stopped halt) = stop_of halt ≡ Refused OverBudget
