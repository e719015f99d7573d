-- What is found of one class after another in a wave.
use Rattle.std.specs.Prelude.{◌≡◌, ◌≢◌, ◌⊎◌, ℕ, ◌<◌, ◌≤◌, Bool, true, false, List, length, Option, Some, None}
use Rattle.std.specs.Prelude.{slice_get, slice_index_or}
use Rattle.std.specs.List.{Contains}
use Rattle.vm_state.specs.SharedState.{Region}
use Rattle.semantics.specs.Programs.{Program}
use Rattle.semantics.specs.Quiet.{Environment, Refusal}
use Rattle.semantics.specs.Quiet as quiet
use Rattle.semantics.specs.Settling.{Settles, StoppedBy}
use Rattle.program.specs.Tables.{Tables}
use Rattle.initializer_analysis.specs.declared.verdict.Reason.TheVariants as reasons
use Rattle.initializer_analysis.specs.declared.verdict.Verdict.{Verdict}
use Rattle.initializer_analysis.specs.declared.verdict.Verdict.TheVariants as verdicts
use Rattle.initializer_analysis.specs.Verdicts as before
use Rattle.initializer_analysis.specs.RefusedUses.{AreFirstRefused}
use Rattle.evaluator.specs.declared.outcome.Outcome.{Outcome as Found}
use Rattle.evaluator.specs.declared.outcome.Outcome.TheVariants as found
use Rattle.evaluator.specs.Outcomes.{reason_of}
use Rattle.region_shape.specs.Regions.{region_of}
use Rattle.wave_scheduler.specs.Settled.{Outcome, Wave, Refused, Stopped, Settled, region_in}
use Rattle.wave_scheduler.specs.steps.Waves.{IsTriedIn, AreRefusedIn, dependent}

-- of each class the first that is not accepted of those that it uses
abbrev pub AreFirstIn : Tables → Settled → List (Option ℕ) → Type 0
AreFirstIn P S first = (flags : List Bool) × AreRefusedIn P S flags × AreFirstRefused P flags first

-- nothing that the code alone bars stops the initializer of a class that depends on no refused one
abbrev pub CanRun : Program → Environment → ℕ → ℕ → Option ℕ → Type 0
CanRun P env budget c (Some e) = Unit {0}
CanRun P env budget c None = StoppedBy P env c budget quiet.Barred → ⊥

-- its initializer left this region, or was refused
abbrev pub HasRun : Program → Environment → ℕ → ℕ → ℕ → Outcome → Option Region → Type 0
HasRun P env budget n c outcome (Some region) =
    (outcome ≡ Wave n) × (cost : ℕ) × Settles P env c cost region × (cost ≤ budget)
HasRun P env budget n c outcome None =
    (why : Refusal) × (outcome ≡ Stopped why) × StoppedBy P env c budget (quiet.Refused why)

-- What is found of a class: that it depends on a refused class, or what its initializer does.
abbrev pub IsFound : Program → Environment → ℕ → ℕ → ℕ → Option ℕ → Outcome → Option Region → Type 0
IsFound P env budget n c (Some e) outcome held = (outcome ≡ Refused (reasons.DependsOn e)) × (held ≡ None)
IsFound P env budget n c None outcome held = HasRun P env budget n c outcome held

-- the same, with the regions that were lent to workers at hand, or with those that there are now
abbrev pub IsFoundIn : Program → Environment → Environment → ℕ → ℕ → ℕ → Option ℕ → Outcome → Option Region → Type 0
IsFoundIn P lent env budget n c taint outcome held =
    IsFound P lent budget n c taint outcome held ⊎ IsFound P env budget n c taint outcome held

-- this is what an outcome of the evaluator says in a wave
abbrev pub IsFoundOf : ℕ → Found → Outcome → Option Region → Type 0
IsFoundOf n (found.Settled region) outcome held = (outcome ≡ Wave n) × (held ≡ Some (region_of region))
IsFoundOf n (found.Refused why) outcome held = (outcome ≡ Stopped (reason_of why)) × (held ≡ None)

-- of one class another outcome and another region, or none, and of others the same
pub record SetsClass (c : ℕ) (outcome : Outcome) (held : Option Region) (old new : Settled) : Type 0 where
  pub count : length new.outcomes ≡ length old.outcomes
  pub regions : length new.regions ≡ length old.regions
  pub here : slice_get new.outcomes c ≡ Some outcome
  pub region : region_in new c ≡ held
  pub others : (d : ℕ) → d ≢ c
      → (slice_get new.outcomes d ≡ slice_get old.outcomes d) × (region_in new d ≡ region_in old d)

-- what was found of a class was put in its place
abbrev pub FindsClass : Program → Environment → Environment → ℕ → ℕ → ℕ → Option ℕ → Settled → Settled → Type 0
FindsClass P lent env budget n c taint old new =
    (outcome : Outcome) × (held : Option Region) × IsFoundIn P lent env budget n c taint outcome held
    × SetsClass c outcome held old new

-- these classes of a wave are tried
pub record TriesThese (P : Tables) (budget : ℕ) (judged : List Verdict) (n : ℕ) (done : List ℕ) (old new : Settled) :
    Type 0 where
  pub count : length new.outcomes ≡ length P.classes
  pub regions : length new.regions ≡ length P.classes
  pub wave : (c : ℕ) → Contains done c → before.HasWave judged c n
  pub here : (c : ℕ) (outcome : Outcome) → Contains done c → slice_get new.outcomes c ≡ Some outcome
      → IsTriedIn P budget old c n outcome (region_in new c)
  pub others : (c : ℕ) → (¬ Contains done c)
      → (slice_get new.outcomes c ≡ slice_get old.outcomes c) × (region_in new c ≡ region_in old c)

-- ---- which classes are not accepted

abbrev pub is_refused : Verdict → Bool
is_refused (verdicts.Wave n) = false
is_refused (verdicts.Refused reason) = true

-- ---- at the end

-- classes below a limit are given the first refused class that they use, and the others not yet
pub record GivesFirstBelow (first : List (Option ℕ)) (limit : ℕ) (old new : List Outcome) : Type 0 where
  pub count : length new ≡ length old
  pub each : (c : ℕ) (outcome : Outcome) → c < limit → slice_get old c ≡ Some outcome
      → slice_get new c ≡ Some (dependent (slice_index_or first c None) outcome)
  pub rest : (c : ℕ) → limit ≤ c → slice_get new c ≡ slice_get old c

abbrev pub GivesEachFirst : List (Option ℕ) → List Outcome → List Outcome → Type 0
GivesEachFirst first old new = GivesFirstBelow first (length old) old new
