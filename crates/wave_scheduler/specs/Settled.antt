-- Which classes are initialized at build time and with which regions, in the end: after their initializers were run.
use Rattle.std.specs.Prelude.{◌≡◌, ℕ, ◌≤◌, Bool, List, length, Option, Some, None, slice_get}
use Rattle.std.specs.Prelude.{slice_index_or, nat_lt, if◌then◌else◌}
use Rattle.vm_state.specs.SharedState.{Region}
use Rattle.semantics.specs.Quiet.{Environment, Refusal}
use Rattle.semantics.specs.Quiet as quiet
use Rattle.semantics.specs.Settling.{Settles, StoppedBy}
use Rattle.program.specs.Tables.{Tables}
use Rattle.machine.specs.Linked.{program_of}
use Rattle.initializer_analysis.specs.declared.verdict.Reason.{Reason}
use Rattle.initializer_analysis.specs.declared.verdict.Reason.TheVariants as reasons
use Rattle.initializer_analysis.specs.Verdicts.{NoneHolds, IsFirstReason, IsFirstRefused, IsWave}

-- ---- what became of classes

-- What becomes of a class in the end. A verdict says it by reasons alone; here what came of a run of the initializer
-- stands apart, as the evaluator tells it, from what is known before any runs.
pub data Outcome : Type 0 where
  -- it is accepted, after all classes of lower waves
  Wave : (n : ℕ) → Outcome
  -- it is refused for what is known before any initializer runs, or since it uses a class that is refused
  Refused : (reason : Reason) → Outcome
  -- its initializer was run, and is refused
  Stopped : (why : Refusal) → Outcome

-- of each class, by its number, what becomes of it, and its region, if it is accepted
pub record Settled : Type 0 where
  pub outcomes : List Outcome
  pub regions : List (Option Region)

abbrev pub HasWave : Settled → ℕ → ℕ → Type 0
HasWave S c n = slice_get S.outcomes c ≡ Some (Wave n)

abbrev pub IsAccepted : Settled → ℕ → Type 0
IsAccepted S c = (n : ℕ) × HasWave S c n

abbrev pub region_in : Settled → ℕ → Option Region
region_in S c = slice_index_or S.regions c None

-- ---- what is at hand for an initializer

abbrev pub if_below : ℕ → Option Outcome → Option Region → Option Region
if_below n (Some (Wave m)) region = if nat_lt m n then region else None
if_below n (Some (Refused reason)) region = None
if_below n (Some (Stopped why)) region = None
if_below n None region = None

-- the regions of the accepted classes of waves below this one
abbrev pub below : Settled → ℕ → Environment
below S n d = if_below n (slice_get S.outcomes d) (region_in S d)

-- ---- what becomes of each class

-- its initializer leaves this region within the budget, in this wave
abbrev pub LeavesRegion : Tables → ℕ → Settled → ℕ → ℕ → Region → Type 0
LeavesRegion P budget S c n region =
    (cost : ℕ) × Settles (program_of P) (below S n) c cost region × (cost ≤ budget)

-- What becomes of a class, where this is what becomes of all.
abbrev pub IsOutcome : Tables → List Bool → ℕ → Settled → ℕ → Outcome → Type 0
IsOutcome P forced budget S c (Wave n) =
    NoneHolds P forced c × IsWave P (HasWave S) c n
    × (region : Region) × (region_in S c ≡ Some region) × LeavesRegion P budget S c n region
IsOutcome P forced budget S c (Stopped why) =
    NoneHolds P forced c × (n : ℕ) × IsWave P (HasWave S) c n
    × StoppedBy (program_of P) (below S n) c budget (quiet.Refused why)
IsOutcome P forced budget S c (Refused (reasons.DependsOn e)) =
    NoneHolds P forced c × IsFirstRefused P (IsAccepted S) c e
IsOutcome P forced budget S c (Refused reason) = IsFirstReason P forced c reason

-- What becomes of all given classes, by their numbers: an equation that the whole lists meet.
pub record AreSettled (P : Tables) (forced : List Bool) (budget : ℕ) (S : Settled) : Type 0 where
  pub count : length S.outcomes ≡ length P.classes
  pub each : (c : ℕ) (outcome : Outcome) → slice_get S.outcomes c ≡ Some outcome
      → IsOutcome P forced budget S c outcome
  pub regions : length S.regions ≡ length P.classes
  -- accepted classes alone have a region
  pub only : (c : ℕ) (region : Region) → region_in S c ≡ Some region → IsAccepted S c
