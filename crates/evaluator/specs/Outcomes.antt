-- What an outcome says of a class's initializer.
use Rattle.std.specs.Prelude.{ℕ, ◌≤◌}
use Rattle.semantics.specs.Programs.{Program}
use Rattle.semantics.specs.Quiet.{Environment, Stop, Refused as RefusedFor, Barred as IsBarred}
use Rattle.semantics.specs.Quiet.{Refusal as Reason, Raised as IsRaised, ForeignObject as IsForeign}
use Rattle.semantics.specs.Quiet.{OverBudget as IsOverBudget, Faulted as IsFaulted}
use Rattle.semantics.specs.Settling.{Settles, StoppedBy}
use Rattle.evaluator.specs.declared.outcome.Refusal.{Refusal}
use Rattle.evaluator.specs.declared.outcome.Refusal.TheVariants.{Raised, ForeignObject, OverBudget, Faulted}
use Rattle.evaluator.specs.declared.outcome.Halt.{Halt}
use Rattle.evaluator.specs.declared.outcome.Halt.TheVariants.{Refused, Barred}
use Rattle.evaluator.specs.declared.outcome.Outcome.{Outcome}
use Rattle.evaluator.specs.declared.outcome.Outcome.TheVariants as outcomes
use Rattle.evaluator.specs.declared.outcome.Evaluation.{Evaluation}
use Rattle.evaluator.specs.declared.outcome.Evaluation.TheVariants as evaluations
use Rattle.region_shape.specs.Regions.{region_of}

abbrev pub reason_of : Refusal → Reason
reason_of Raised = IsRaised
reason_of ForeignObject = IsForeign
reason_of OverBudget = IsOverBudget
reason_of Faulted = IsFaulted

abbrev pub stop_of : Halt → Stop
stop_of (Refused why) = RefusedFor (reason_of why)
stop_of Barred = IsBarred

-- Within this budget a class's initializer leaves the region, or is stopped so.
abbrev pub IsEvaluation : Program → Environment → ℕ → ℕ → Evaluation → Type 0
IsEvaluation P env c budget (evaluations.Settled region) = (n : ℕ) × Settles P env c n (region_of region) × (n ≤ budget)
IsEvaluation P env c budget (evaluations.Stopped halt) = StoppedBy P env c budget (stop_of halt)

-- It is not stopped by what bars its class by the code alone.
abbrev pub IsUnbarred : Program → Environment → ℕ → ℕ → Type 0
IsUnbarred P env c budget = StoppedBy P env c budget IsBarred → ⊥

-- Within this budget a class's initializer leaves the region, or is refused for this reason.
abbrev pub IsOutcome : Program → Environment → ℕ → ℕ → Outcome → Type 0
IsOutcome P env c budget (outcomes.Settled region) = (n : ℕ) × Settles P env c n (region_of region) × (n ≤ budget)
IsOutcome P env c budget (outcomes.Refused why) = StoppedBy P env c budget (RefusedFor (reason_of why))
