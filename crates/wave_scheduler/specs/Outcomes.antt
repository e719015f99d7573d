-- What is answered of all classes, as definitions see it.
use Rattle.std.specs.Prelude.{ℕ, ◌≤◌, List, Bool, map, option_map}
use Rattle.semantics.specs.Quiet as quiet
use Rattle.program.specs.Tables.{Tables}
use Rattle.initializer_analysis.specs.declared.verdict.Reason.TheVariants as reasons
use Rattle.initializer_analysis.specs.declared.verdict.Verdict.{Verdict}
use Rattle.initializer_analysis.specs.declared.verdict.Verdict.TheVariants as verdicts
use Rattle.initializer_analysis.specs.Verdicts.{AreVerdicts}
use Rattle.region_shape.specs.Regions.{region_of}
use Rattle.wave_scheduler.specs.declared.outcome.Settled.{Settled as Answer}
use Rattle.wave_scheduler.specs.declared.outcome.WaveFault.{WaveFault}
use Rattle.wave_scheduler.specs.declared.outcome.WaveFault.TheVariants as faults
use Rattle.wave_scheduler.specs.Settled.{Outcome, Wave, Refused, Stopped, Settled}

-- what becomes of a class of this verdict: the last four reasons are those of a run of its initializer
abbrev pub outcome_of : Verdict → Outcome
outcome_of (verdicts.Wave n) = Wave n
outcome_of (verdicts.Refused reasons.Raised) = Stopped quiet.Raised
outcome_of (verdicts.Refused reasons.ForeignObject) = Stopped quiet.ForeignObject
outcome_of (verdicts.Refused reasons.Budget) = Stopped quiet.OverBudget
outcome_of (verdicts.Refused reasons.Faulted) = Stopped quiet.Faulted
outcome_of (verdicts.Refused reason) = Refused reason

abbrev pub settled_of : Answer → Settled
settled_of s = record { outcomes = map outcome_of s.verdicts; regions = map (option_map region_of) s.regions }

-- these are the verdicts on all classes, for some forced ones
abbrev pub AreJudged : Tables → List Verdict → Type 0
AreJudged P judged = (forced : List Bool) × AreVerdicts P forced judged

-- there may be so many workers
abbrev pub CanWork : ℕ → Type 0
CanWork workers = (1 ≤ workers) × (workers ≤ 64)

-- Why classes were not settled by so many workers: if there may be so many, for want of memory alone.
abbrev pub IsWaveFault : ℕ → WaveFault → Type 0
IsWaveFault workers faults.Memory = CanWork workers
IsWaveFault workers faults.Workers = ¬ CanWork workers
