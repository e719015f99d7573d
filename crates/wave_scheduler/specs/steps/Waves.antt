-- How it is found what becomes of classes: wave by wave, and at the end which class each refused one depends on.
use Rattle.std.specs.Prelude.{◌≡◌, ◌↔◌, ℕ, suc, ◌<◌, ◌≤◌, Bool, false, IsTrue, List, length, Option, Some, None}
use Rattle.std.specs.Prelude.{slice_get, slice_index_or}
use Rattle.vm_state.specs.SharedState.{Region}
use Rattle.semantics.specs.Quiet.{Environment, Refusal}
use Rattle.semantics.specs.Quiet as quiet
use Rattle.semantics.specs.Settling.{Settles, StoppedBy}
use Rattle.loading.specs.Families.{IsFamily, AreParentsWithin}
use Rattle.program.specs.Programs.{IsProgram}
use Rattle.program.specs.Tables.{Tables}
use Rattle.machine.specs.Linked.{program_of}
use Rattle.use_graph.specs.Uses.{IsUse}
use Rattle.initializer_analysis.specs.declared.verdict.Reason.{Reason}
use Rattle.initializer_analysis.specs.declared.verdict.Reason.TheVariants as reasons
use Rattle.initializer_analysis.specs.declared.verdict.Verdict.{Verdict}
use Rattle.initializer_analysis.specs.declared.verdict.Verdict.TheVariants as verdicts
use Rattle.initializer_analysis.specs.Verdicts as before
use Rattle.initializer_analysis.specs.RefusedUses.{AreFirstRefused}
use Rattle.wave_scheduler.specs.Settled.{Outcome, Wave, Refused, Stopped, Settled, HasWave, IsAccepted, region_in}
use Rattle.wave_scheduler.specs.Settled.{below}
use Rattle.wave_scheduler.specs.Settled.{LeavesRegion}
use Rattle.wave_scheduler.specs.steps.Judged.{UsesAccepted, FollowVerdicts}
use Rattle.wave_scheduler.specs.Outcomes.{outcome_of}

-- ---- wave by wave

-- What comes of a class that was tried in a wave, and its region, if it has one. Of one that uses a refused class it is
-- not yet told which is the first.
abbrev pub IsTriedIn : Tables → ℕ → Settled → ℕ → ℕ → Outcome → Option Region → Type 0
IsTriedIn P budget S c n (Wave k) held =
    (k ≡ n) × UsesAccepted P S c × (region : Region) × (held ≡ Some region) × LeavesRegion P budget S c n region
IsTriedIn P budget S c n (Stopped why) held =
    UsesAccepted P S c × StoppedBy (program_of P) (below S n) c budget (quiet.Refused why) × (held ≡ None)
IsTriedIn P budget S c n (Refused (reasons.DependsOn e)) held =
    (d : ℕ) × IsUse P c d × (¬ IsAccepted S d) × (held ≡ None)
IsTriedIn P budget S c n (Refused reason) held = ⊥

-- a class that was refused before stays so
abbrev pub StaysRefused : Reason → Outcome → Type 0
StaysRefused (reasons.DependsOn d) outcome = (e : ℕ) × (outcome ≡ Refused (reasons.DependsOn e))
StaysRefused reason outcome = outcome ≡ Refused reason

-- The classes of waves below n are tried, and those of others wait: they have their waves, and no regions.
pub record AreTriedBelow (P : Tables) (budget : ℕ) (judged : List Verdict) (n : ℕ) (S : Settled) : Type 0 where
  pub count : length S.outcomes ≡ length P.classes
  pub regions : length S.regions ≡ length P.classes
  pub tried : (c m : ℕ) (outcome : Outcome) → before.HasWave judged c m → m < n
      → slice_get S.outcomes c ≡ Some outcome → IsTriedIn P budget S c m outcome (region_in S c)
  pub waits : (c m : ℕ) → before.HasWave judged c m → n ≤ m → HasWave S c m × (region_in S c ≡ None)
  pub refused : (c : ℕ) (reason : Reason) (outcome : Outcome) → slice_get judged c ≡ Some (verdicts.Refused reason)
      → slice_get S.outcomes c ≡ Some outcome → StaysRefused reason outcome
  pub only : (c : ℕ) (region : Region) → region_in S c ≡ Some region → IsAccepted S c

-- The classes of wave n are tried, with the regions of lower waves at hand; nothing else changes.
pub record TriesWave (P : Tables) (budget : ℕ) (judged : List Verdict) (n : ℕ) (old new : Settled) : Type 0 where
  pub count : length new.outcomes ≡ length P.classes
  pub regions : length new.regions ≡ length P.classes
  pub here : (c : ℕ) (outcome : Outcome) → before.HasWave judged c n → slice_get new.outcomes c ≡ Some outcome
      → IsTriedIn P budget old c n outcome (region_in new c)
  pub others : (c : ℕ) → (¬ before.HasWave judged c n)
      → (slice_get new.outcomes c ≡ slice_get old.outcomes c) × (region_in new c ≡ region_in old c)

-- ---- at the start

-- as the verdicts say, and without regions
pub record StartsFrom (judged : List Verdict) (S : Settled) : Type 0 where
  pub count : length S.outcomes ≡ length judged
  pub each : (c : ℕ) (verdict : Verdict) → slice_get judged c ≡ Some verdict
      → slice_get S.outcomes c ≡ Some (outcome_of verdict)
  pub regions : length S.regions ≡ length judged
  pub none : (c : ℕ) → region_in S c ≡ None

-- ---- at the end

-- of each class whether it is not accepted
pub record AreRefusedIn (P : Tables) (S : Settled) (flags : List Bool) : Type 0 where
  pub count : length flags ≡ length P.classes
  pub each : (c : ℕ) → c < length P.classes → IsTrue (slice_index_or flags c false) ↔ (¬ IsAccepted S c)

-- a class depends on the first class that is refused of those that it uses
abbrev pub dependent : Option ℕ → Outcome → Outcome
dependent (Some e) (Refused (reasons.DependsOn d)) = Refused (reasons.DependsOn e)
dependent _ outcome = outcome

pub record HasFirst (first : List (Option ℕ)) (old new : Settled) : Type 0 where
  pub count : length new.outcomes ≡ length old.outcomes
  pub each : (c : ℕ) (outcome : Outcome) → slice_get old.outcomes c ≡ Some outcome
      → slice_get new.outcomes c ≡ Some (dependent (slice_index_or first c None) outcome)
  pub regions : new.regions ≡ old.regions

-- ---- laws

abbrev pub WavesStart : Type 0
WavesStart =
    (P : Tables) (forced : List Bool) (budget : ℕ) (judged : List Verdict) (S : Settled)
    → before.AreVerdicts P forced judged → StartsFrom judged S → AreTriedBelow P budget judged 0 S

abbrev pub WavesGoOn : Type 0
WavesGoOn =
    (P : Tables) (forced : List Bool) (budget : ℕ) (judged : List Verdict) (n : ℕ) (old new : Settled)
    → before.AreVerdicts P forced judged → AreTriedBelow P budget judged n old → TriesWave P budget judged n old new
    → AreTriedBelow P budget judged (suc n) new

abbrev pub WavesEnd : Type 0
WavesEnd =
    (P : Tables) (forced : List Bool) (budget : ℕ) (judged : List Verdict) (n : ℕ) (old new : Settled)
    (flags : List Bool) (first : List (Option ℕ)) → before.AreVerdicts P forced judged
    → AreTriedBelow P budget judged n old → ((c m : ℕ) → before.HasWave judged c m → m < n)
    → AreRefusedIn P old flags → AreFirstRefused P flags first → HasFirst first old new
    → FollowVerdicts P budget judged new

-- What is found of a class of the next wave, all of whose uses are accepted, with the regions of lower waves at hand
-- and maybe more.
pub record Decides (P : Tables) (budget : ℕ) (S : Settled) (n c : ℕ) (env : Environment) : Type 0 where
  pub settles : (cost : ℕ) (region : Region) → Settles (program_of P) env c cost region → cost ≤ budget
      → IsTriedIn P budget S c n (Wave n) (Some region)
  pub stops : (why : Refusal) → StoppedBy (program_of P) env c budget (quiet.Refused why)
      → IsTriedIn P budget S c n (Stopped why) None
  pub unbarred : StoppedBy (program_of P) env c budget quiet.Barred → ⊥

abbrev pub TriesDecide : Type 0
TriesDecide =
    (P : Tables) (forced : List Bool) (budget : ℕ) (judged : List Verdict) (n : ℕ) (S : Settled) → IsProgram P
    → IsFamily P.family → AreParentsWithin P.family → before.AreVerdicts P forced judged
    → AreTriedBelow P budget judged n S → (c : ℕ) → before.HasWave judged c n → UsesAccepted P S c
    → (env : Environment) → ((d : ℕ) (region : Region) → below S n d ≡ Some region → env d ≡ Some region)
    → Decides P budget S n c env
