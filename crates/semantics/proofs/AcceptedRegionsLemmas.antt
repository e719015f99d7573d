-- An accepted class has one region, whichever accepted classes are at hand while its initializer runs.
use Rattle.std.proofs.Common.{◌≡◌, ℕ, inl, inr, Option, Some, None, refl, ap}
use Rattle.vm_state.specs.SharedState.{Region}
use Rattle.semantics.specs.Programs.{Program}
use Rattle.semantics.specs.Quiet.{Environment}
use Rattle.semantics.specs.Acceptance.{Analysis, Accepted, Accepts, OneRegion, AreAccepted, IsWithin, WiderEnvironment}
use Rattle.semantics.proofs.BranchesLemmas.{none_or_some, value_in}
use Rattle.semantics.proofs.OneRunLemmas.{settles_once}
use Rattle.semantics.proofs.EnvironmentsLemmas.{Extends, settles-wider}

abbrev first_of_two : Option Region → Option Region → Option Region
first_of_two None second = second
first_of_two (Some r) second = Some r

module _ (P : Program) (A : Analysis) where
  -- both initializers run with both environments at hand, which agree
  pub accepted_once : {c : ℕ} {first : Region} → Accepted P A c first → (second : Region) → Accepted P A c second
      → first ≡ second
  accepted_once
      (Accepts c first env n one allowed some lower known settles within) second
      (Accepts d region other k given free all below seen runs fits) =
      let both : Environment = λ e. first_of_two (env e) (other e) in
      let left : Extends env both = λ e r at. rw at refl in
      let right : Extends other both = λ e r at. elim (none_or_some (env e)) [
        | inl none ↦ rw (none, at) refl
        | inr found ↦ rw found.1 (ap Some (accepted_once (known e found.0 found.1) r (seen e r at)))
      ] in
      let one = settles-wider P env both left c n first settles in
      let two = settles-wider P other both right c k second runs in
      (settles_once P both c n k first second one two).1

  -- an environment of accepted classes extends each that is within it
  pub accepted_extend : (env wider : Environment) → AreAccepted P A env → AreAccepted P A wider → IsWithin env wider
      → Extends env wider
  accepted_extend env wider known seen within d r at =
      let found = value_in (wider d) (within d (rw at refl)) in
      rw found.1 (ap Some (accepted_once (seen d found.0 found.1) r (known d r at)))

pub one_region_lem : OneRegion
one_region_lem P A c first second is again = accepted_once P A is second again

pub wider_environment_lem : WiderEnvironment
wider_environment_lem P A env wider known seen within =
    settles-wider P env wider (accepted_extend P A env wider known seen within)
