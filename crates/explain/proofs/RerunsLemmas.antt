-- What an initializer costs, by the least budget in which it does not cost too much.
use Rattle.std.proofs.Common.{◌≡◌, Bool, true, false, refl, ◌⊎◌, ℕ, zero, suc, ◌+◌, ◌≤◌, subst, inl, inr, arith}
use Rattle.std.specs.Bool.{MatchBool}
use Rattle.semantics.specs.Programs.{Program}
use Rattle.semantics.specs.Quiet.{Environment, OverBudget, Refused, Stop}
use Rattle.semantics.specs.Settling.{Settles, StoppedBy, StopExcludes, OneStop}
use Rattle.evaluator.specs.declared.outcome.Evaluation.{Evaluation}
use Rattle.evaluator.specs.declared.outcome.Evaluation.TheVariants as evaluations
use Rattle.evaluator.specs.Outcomes.{IsEvaluation, stop_of}
use Rattle.region_shape.specs.Regions.{region_of}
use Rattle.explain.specs.Reruns.{CostsMore, EndsAt, IsLeast}
use Rattle.explain.specs.steps.Over.{IsOver}

-- a class that settles within the least budget costs just that
pub ends_at : StopExcludes → (P : Program) (env : Environment) (c greatest budget : ℕ) (evaluation : Evaluation)
    → IsLeast P env c greatest budget → IsEvaluation P env c budget evaluation → EndsAt P env c budget evaluation
ends_at excludes P env c greatest budget (evaluations.Stopped halt) least stopped = stopped
ends_at excludes P env c greatest budget (evaluations.Settled region) least (n, settles, within) =
    by (just budget n within)
  where
    just : (budget n : ℕ) → n ≤ budget → (n ≡ budget) ⊎ ((less : ℕ) × (budget ≡ less + 1) × (n ≤ less))
    just zero n within = inl (omega (arith, within))
    just (suc less) n within = elim (below less n within) [
      | inl same ↦ inl same
      | inr under ↦ inr (less, omega arith, under)
    ]
      where
        below : (less n : ℕ) → n ≤ suc less → (n ≡ suc less) ⊎ (n ≤ less)
        below less n within = grind arith

    by : (n ≡ budget) ⊎ ((less : ℕ) × (budget ≡ less + 1) × (n ≤ less)) → Settles P env c budget (region_of region)
    by (inl same) = subst (λ (m : ℕ). Settles P env c m (region_of region)) same settles
    by (inr (less, is, under)) =
        absurd (excludes P env c n less (region_of region) (Refused OverBudget) settles under (least.least less is))

-- whether it costs more, by how it ended
pub told_over : StopExcludes → OneStop → (P : Program) (env : Environment) (c budget : ℕ) (evaluation : Evaluation)
    (over : Bool) → (over ≡ true → IsOver evaluation) → (over ≡ false → ¬ IsOver evaluation)
    → IsEvaluation P env c budget evaluation → MatchBool over (CostsMore P env c budget) (¬ CostsMore P env c budget)
told_over excludes one P env c budget (evaluations.Settled region) true so not_so (n, settles, within) =
    absurd (so refl)
told_over excludes one P env c budget (evaluations.Settled region) false so not_so (n, settles, within) =
    λ more. excludes P env c n budget (region_of region) (Refused OverBudget) settles within more
told_over excludes one P env c budget (evaluations.Stopped halt) true so not_so stopped =
    subst (λ (s : Stop). StoppedBy P env c budget s) (so refl) stopped
told_over excludes one P env c budget (evaluations.Stopped halt) false so not_so stopped =
    λ more. not_so refl (one P env c budget (stop_of halt) (Refused OverBudget) stopped more)
