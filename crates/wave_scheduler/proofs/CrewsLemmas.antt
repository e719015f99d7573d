-- Waves by workers: what they are lent, and what is known at the end.
use Rattle.std.proofs.Common.{◌≡◌, ℕ, List, Option, Some, Global, Vec, length, ap, subst, sym, ◌∙◌}
use Rattle.graph.specs.Rows.{rows_of}
use Rattle.graph.proofs.RowsLemmas.{length-rows_of}
use Rattle.vm_state.specs.SharedState.{Region}
use Rattle.program.specs.Tables.{Tables}
use Rattle.initializer_analysis.specs.declared.verdict.Verdict.{Verdict}
use Rattle.semantics.specs.Programs.{Program}
use Rattle.semantics.specs.Quiet.{Environment}
use Rattle.region_shape.specs.declared.regions.Region.{Region as Held}
use Rattle.evaluator.specs.declared.outcome.Outcome.{Outcome as Found}
use Rattle.evaluator.specs.declared.outcome.Outcome.TheVariants as found
use Rattle.evaluator.specs.Outcomes.{IsOutcome, reason_of}
use Rattle.region_shape.specs.Regions.{environment_of}
use Rattle.wave_scheduler.specs.declared.outcome.Settled.{Settled as Answer}
use Rattle.wave_scheduler.specs.Settled.{Outcome, Settled, below}
use Rattle.wave_scheduler.specs.Outcomes.{settled_of, AreJudged}
use Rattle.wave_scheduler.specs.steps.Judged.{FollowVerdicts}
use Rattle.wave_scheduler.specs.steps.Waves.{AreTriedBelow}
use Rattle.wave_scheduler.specs.steps.WaveMembers.{AreMembersOfAll}
use Rattle.wave_scheduler.specs.steps.Finding.{HasRun, IsFoundOf}
use Rattle.wave_scheduler.specs.steps.Plans.{GivesFirst}
use Rattle.wave_scheduler.proofs.FindingLemmas.{region_seen}
use Rattle.wave_scheduler.proofs.SettledLemmas.{from_below}
use Rattle.wave_scheduler.proofs.TriesLemmas.{waves_end_lem}
use Rattle.wave_scheduler.proofs.WaveMembersLemmas.{waves_low}

-- the regions of lower waves are among those that are lent before a wave
pub lent_has : (old : Answer) (n : ℕ) (regions : List (Option Held)) → old.regions ≡ regions → (d : ℕ) (r : Region)
    → below (settled_of old) n d ≡ Some r → environment_of regions d ≡ Some r
lent_has old n regions same d r here =
    let (m, at, less, has) = from_below (settled_of old) n d r here in
    ap (λ (rs : List (Option Held)). environment_of rs d) (sym same) ∙ region_seen old.regions d ∙ has

-- what the evaluator answers of a class is what its initializer does
pub run_by : (P : Program) (env : Environment) (budget n c : ℕ) (answer : Found) (o : Outcome) (held : Option Region)
    → IsOutcome P env c budget answer → IsFoundOf n answer o held → HasRun P env budget n c o held
run_by P env budget n c (found.Settled region) o held (cost, settles, small) (so, is) =
    rw is (so, cost, settles, small)
run_by P env budget n c (found.Refused why) o held stops (so, none) = rw none (reason_of why, so, stops)

-- once all waves are tried and each class is told what it depends on, all follows the verdicts
pub all_follow : (P : Tables) (budget : ℕ) (judged : List Verdict) (waves : List (Vec ℕ Global)) (old new : Settled)
    → AreJudged P judged → AreMembersOfAll judged (rows_of waves) → AreTriedBelow P budget judged (length waves) old
    → GivesFirst P old new → FollowVerdicts P budget judged new
all_follow P budget judged waves old new (forced, are) members_are tried (first, (flags, refused, firsts), told) =
    let below : AreTriedBelow P budget judged (length (rows_of waves)) old =
    subst (λ (n : ℕ). AreTriedBelow P budget judged n old) (sym (length-rows_of waves)) tried in
    waves_end_lem P forced budget judged (length (rows_of waves)) old new flags first are below
    (λ c m at. waves_low judged (rows_of waves) members_are c m at) refused firsts told
