-- There is what the laws of images ask for, of each linked program.
use Rattle.std.proofs.Common.{◌≡◌, ◌↔◌, inl, inr, ℕ, Bool, true, false, List, length, refl}
use Rattle.std.specs.List.{Contains}
use Rattle.semantics.specs.Acceptance.{Analysis}
use Rattle.semantics.specs.Images.{UsesParents}
use Rattle.loading.specs.Families.{IsFamily, AreParentsWithin}
use Rattle.program.specs.Programs.{IsProgram}
use Rattle.program.specs.Tables.{Tables}
use Rattle.machine.specs.Linked.{program_of}
use Rattle.use_graph.specs.Uses.{IsUse}
use Rattle.use_graph.proofs.UsesWithinLemmas.{order_is_used}
use Rattle.initializer_analysis.specs.Forced.{has_class}
use Rattle.wave_scheduler.specs.Laws.{IsAllowed, IsAnalysis, HasAnalysis}
use Rattle.initializer_analysis.proofs.ReachesLemmas.{Decided, decided_true, decided_both, decided_not, listed}
use Rattle.initializer_analysis.proofs.UsesLemmas.{decided_use, decided_unmarked}

-- ---- an analysis

told : {Q : Type 0} → Decided Q → Bool
told (inl q) = true
told (inr never) = false

told-is : {Q : Type 0} (d : Decided Q) → (told d ≡ true) ↔ Q
unfolding told
told-is (inl q) = (λ is. q, λ q. refl)
told-is (inr never) = (λ is. cc, λ q. absurd (never q))

module _ (P : Tables) (forced : List Bool) (budget : ℕ) where
  uses_of : (c : ℕ) → (xs : List ℕ) × ((d : ℕ) → Contains xs d ↔ IsUse P c d)
  uses_of c =
      let (xs, are) = listed (length P.classes) (IsUse P c) (decided_use P c) in
      (xs, λ d. (λ at. ((are d).0 at).1, λ used. (are d).1 (used.0, used)))

  decided_allowed : (c : ℕ) → Decided (IsAllowed P forced c)
  decided_allowed c = decided_both (decided_not (decided_true (has_class forced c))) (decided_unmarked P c)

  analysis : Analysis
  analysis =
      record { uses = λ c. (uses_of c).0; allowed = λ c. told (decided_allowed c); budget = budget }

  is_analysis : IsAnalysis P forced budget analysis
  unfolding analysis
  is_analysis = record {
    uses = λ c d low. (uses_of c).1 d;
    allowed = λ c low. told-is (decided_allowed c);
    bound = refl;
  }

  module _ (is : IsProgram P) (fits : IsFamily P.family) (within : AreParentsWithin P.family) where
    uses_parents : UsesParents (program_of P) analysis
    unfolding analysis
    uses_parents c p low at = ((uses_of c).1 p).1 (order_is_used P is fits within c p low at)

pub has_analysis_lem : HasAnalysis
has_analysis_lem P forced budget is fits within =
    (analysis P forced budget, is_analysis P forced budget, uses_parents P forced budget is fits within)
