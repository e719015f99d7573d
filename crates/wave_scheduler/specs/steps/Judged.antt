-- What becomes of classes, from the verdicts that were given before any initializer ran.
use Rattle.std.specs.Prelude.{◌≡◌, ℕ, ◌<◌, Bool, List, length, Some, slice_get}
use Rattle.vm_state.specs.SharedState.{Region}
use Rattle.semantics.specs.Quiet as quiet
use Rattle.semantics.specs.Settling.{StoppedBy}
use Rattle.loading.specs.Families.{IsFamily, AreParentsWithin}
use Rattle.program.specs.Programs.{IsProgram}
use Rattle.program.specs.Tables.{Tables}
use Rattle.machine.specs.Linked.{program_of}
use Rattle.use_graph.specs.Uses.{IsUse}
use Rattle.initializer_analysis.specs.declared.verdict.Reason.TheVariants as reasons
use Rattle.initializer_analysis.specs.declared.verdict.Verdict.{Verdict}
use Rattle.initializer_analysis.specs.declared.verdict.Verdict.TheVariants as verdicts
use Rattle.initializer_analysis.specs.Verdicts as before
use Rattle.initializer_analysis.specs.Verdicts.{IsFirstRefused}
use Rattle.wave_scheduler.specs.Settled.{Outcome, Wave, Refused, Stopped, Settled, IsAccepted, region_in, below}
use Rattle.wave_scheduler.specs.Settled.{LeavesRegion, AreSettled}

-- all that a class uses is accepted
abbrev pub UsesAccepted : Tables → Settled → ℕ → Type 0
UsesAccepted P S c = (e : ℕ) → IsUse P c e → IsAccepted S e

-- What becomes of a class of a wave: its initializer is run if all that it uses is accepted.
abbrev pub IsTried : Tables → ℕ → Settled → ℕ → ℕ → Outcome → Type 0
IsTried P budget S c n (Wave k) =
    (k ≡ n) × UsesAccepted P S c
    × (region : Region) × (region_in S c ≡ Some region) × LeavesRegion P budget S c n region
IsTried P budget S c n (Stopped why) =
    UsesAccepted P S c × StoppedBy (program_of P) (below S n) c budget (quiet.Refused why)
IsTried P budget S c n (Refused (reasons.DependsOn e)) = IsFirstRefused P (IsAccepted S) c e
IsTried P budget S c n (Refused reason) = ⊥

-- What becomes of a class of a verdict. One that is refused stays so: it is told anew which of its uses is the first
-- that is refused.
abbrev pub Follows : Tables → ℕ → Settled → ℕ → Verdict → Outcome → Type 0
Follows P budget S c (verdicts.Wave n) outcome = IsTried P budget S c n outcome
Follows P budget S c (verdicts.Refused (reasons.DependsOn d)) outcome =
    (e : ℕ) × (outcome ≡ Refused (reasons.DependsOn e)) × IsFirstRefused P (IsAccepted S) c e
Follows P budget S c (verdicts.Refused reason) outcome = outcome ≡ Refused reason

-- each class's outcome follows its verdict
pub record FollowVerdicts (P : Tables) (budget : ℕ) (judged : List Verdict) (S : Settled) : Type 0 where
  pub count : length S.outcomes ≡ length P.classes
  pub each : (c : ℕ) (verdict : Verdict) (outcome : Outcome) → slice_get judged c ≡ Some verdict
      → slice_get S.outcomes c ≡ Some outcome → Follows P budget S c verdict outcome
  pub regions : length S.regions ≡ length P.classes
  pub only : (c : ℕ) (region : Region) → region_in S c ≡ Some region → IsAccepted S c

-- ---- laws

-- What follows the verdicts solves the equation.
abbrev pub FollowersAreSettled : Type 0
FollowersAreSettled =
    (P : Tables) (forced : List Bool) (budget : ℕ) (judged : List Verdict) (S : Settled)
    → before.AreVerdicts P forced judged → FollowVerdicts P budget judged S → AreSettled P forced budget S

-- There are no more waves than classes.
abbrev pub FewWaves : Type 0
FewWaves =
    (P : Tables) (forced : List Bool) (judged : List Verdict) → before.AreVerdicts P forced judged → (c n : ℕ)
    → before.HasWave judged c n → n < length P.classes

-- Something follows the verdicts, of each linked program and within each budget.
abbrev pub HasFollower : Type 0
HasFollower =
    (P : Tables) (forced : List Bool) (budget : ℕ) (judged : List Verdict) → IsProgram P → IsFamily P.family
    → AreParentsWithin P.family → before.AreVerdicts P forced judged
    → (S : Settled) × FollowVerdicts P budget judged S
