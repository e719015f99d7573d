-- How frames of an initializer ended, as what its class settles to or is stopped by.
use Rattle.std.proofs.Common.{◌≡◌, ◌≤◌, ℕ, Some, None, subst}
use Rattle.vm_state.specs.SharedState.{Region}
use Rattle.semantics.specs.Programs.{Program}
use Rattle.semantics.specs.Quiet.{Environment}
use Rattle.semantics.specs.Alone.{RunsAlone, StopsAlone, body}
use Rattle.semantics.specs.Settling.{constant_region, Settles, StoppedBy}
use Rattle.semantics.proofs.BigStepsLemmas.{big_from_small}
use Rattle.semantics.proofs.SmallStopsLemmas.{big_from_small_stop}
use Rattle.evaluator.specs.declared.outcome.Halt.{Halt}
use Rattle.evaluator.specs.Outcomes.{stop_of}
use Rattle.evaluator.specs.steps.Steps.{IsEnd}

module _ (P : Program) (env : Environment) (c budget : ℕ) (own last : Region) (begins : own ≡ constant_region P c) where
  pub settled : IsEnd P env c (body (P.initializer c)) own budget None last →
      (n : ℕ) × Settles P env c n last × (n ≤ budget)
  settled (n, run, within) = (
    n,
    big_from_small P env c n last
        (subst (λ (r : Region). RunsAlone P env c (body (P.initializer c)) r n last) begins run),
    within,
  )

  pub stopped : (halt : Halt) → IsEnd P env c (body (P.initializer c)) own budget (Some halt) last →
      StoppedBy P env c budget (stop_of halt)
  stopped halt stops =
      big_from_small_stop P env c budget (stop_of halt)
      (subst (λ (r : Region). StopsAlone P env c (body (P.initializer c)) r budget (stop_of halt)) begins stops)
