-- What an initializer costs.
use Rattle.std.specs.Prelude.{◌≡◌, ℕ, ◌+◌, ◌<◌, ◌≤◌, ◌==◌, None, if◌then◌else◌}
use Rattle.semantics.specs.Programs.{Program}
use Rattle.semantics.specs.Quiet.{Environment, OverBudget, Refused}
use Rattle.semantics.specs.Settling.{Settles, StoppedBy}
use Rattle.evaluator.specs.declared.outcome.Evaluation.{Evaluation}
use Rattle.evaluator.specs.declared.outcome.Evaluation.TheVariants as evaluations
use Rattle.evaluator.specs.Outcomes.{stop_of}
use Rattle.region_shape.specs.Regions.{environment_of, region_of}
use Rattle.machine.specs.Linked.{program_of}
use Rattle.object_graph.specs.Images.{ImageTables}
use Rattle.explain.specs.declared.reruns.Rerun.{Rerun}

-- an initializer costs more than a budget
abbrev pub CostsMore : Program → Environment → ℕ → ℕ → Type 0
CostsMore P env c budget = StoppedBy P env c budget (Refused OverBudget)

-- the least budget that it does not cost more than, or the greatest
pub record IsLeast (P : Program) (env : Environment) (c greatest budget : ℕ) : Type 0 where
  pub within : budget ≤ greatest
  pub enough : budget < greatest → ¬ CostsMore P env c budget
  pub least : (less : ℕ) → budget ≡ less + 1 → CostsMore P env c less

-- what it leaves at just this cost, or what stops it within it
abbrev pub EndsAt : Program → Environment → ℕ → ℕ → Evaluation → Type 0
EndsAt P env c budget (evaluations.Settled region) = Settles P env c budget (region_of region)
EndsAt P env c budget (evaluations.Stopped halt) = StoppedBy P env c budget (stop_of halt)

pub record IsRerun (P : Program) (env : Environment) (c greatest : ℕ) (again : Rerun) : Type 0 where
  pub least : IsLeast P env c greatest again.budget
  pub evaluation : EndsAt P env c again.budget again.evaluation

-- the regions of all classes but one
abbrev pub without : Environment → ℕ → Environment
without env c d = if d == c then None else env d

-- The initializer of a class is run again with just those regions at hand that an image has of the other classes.
abbrev pub IsRerunIn : ImageTables → ℕ → ℕ → Rerun → Type 0
IsRerunIn I c greatest again =
    IsRerun (program_of I.program) (without (environment_of I.regions) c) c greatest again
