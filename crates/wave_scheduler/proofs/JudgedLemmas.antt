-- What follows the verdicts solves the equation.
use Rattle.std.proofs.Common.{inl, inr, ℕ, Bool, List, Some}
use Rattle.std.proofs.Common.{sym, ap, subst, ◌∙◌, arith}
use Rattle.std.proofs.lemmas.Option.{slice_get_within}
use Rattle.program.specs.Tables.{Tables}
use Rattle.initializer_analysis.specs.declared.verdict.Reason.TheVariants as reasons
use Rattle.initializer_analysis.specs.declared.verdict.Verdict.{Verdict}
use Rattle.initializer_analysis.specs.declared.verdict.Verdict.TheVariants as verdicts
use Rattle.initializer_analysis.specs.Verdicts as before
use Rattle.initializer_analysis.specs.Verdicts.{IsWave}
use Rattle.wave_scheduler.specs.Settled.{Outcome, Wave, Refused, Stopped, Settled, HasWave}
use Rattle.wave_scheduler.specs.Settled.{IsOutcome, AreSettled}
use Rattle.wave_scheduler.specs.steps.Judged.{UsesAccepted, IsTried, Follows, FollowVerdicts, FollowersAreSettled}
use Rattle.initializer_analysis.proofs.ReachesLemmas.{one_of}

module _ (P : Tables) (forced : List Bool) (budget : ℕ) (judged : List Verdict) (S : Settled)
    (are : before.AreVerdicts P forced judged) (follow : FollowVerdicts P budget judged S) where
  -- an accepted class has the wave that it had before
  kept_wave : (c m k : ℕ) → before.HasWave judged c m → HasWave S c k → HasWave S c m
  kept_wave c m k at here =
      here ∙ ap (λ (x : ℕ). Some (Wave x)) (follow.each c (verdicts.Wave m) (Wave k) at here).0

  wave_there : (c n : ℕ) → IsWave P (before.HasWave judged) c n → UsesAccepted P S c → IsWave P (HasWave S) c n
  wave_there c n wave accepted = record {
    above = λ e used.
        let (m, at, less) = wave.above e used in
        let (k, here) = accepted e used in
        (m, kept_wave e m k at here, less);
    least = elim wave.least [
      | inl none ↦ inl none
      | inr (e, used, m, at, is) ↦ (let (k, here) = accepted e used in
          inr (e, used, m, kept_wave e m k at here, is))
    ];
  }

  by_wave : (c n : ℕ) (o : Outcome) → before.NoneHolds P forced c → IsWave P (before.HasWave judged) c n
      → IsTried P budget S c n o → IsOutcome P forced budget S c o
  by_wave c n (Wave k) none wave (same, accepted, region, there, leaves) =
      subst (λ (x : ℕ). IsOutcome P forced budget S c (Wave x)) (sym same)
      (none, wave_there c n wave accepted, region, there, leaves)
  by_wave c n (Stopped why) none wave (accepted, stops) = (none, n, wave_there c n wave accepted, stops)
  by_wave c n (Refused (reasons.DependsOn e)) none wave first = (none, first)
  by_wave c n (Refused _) none wave never = absurd never

  by_verdict : (c : ℕ) (v : Verdict) (o : Outcome) → before.IsVerdict P forced judged c v → Follows P budget S c v o
      → IsOutcome P forced budget S c o
  by_verdict c (verdicts.Wave n) o (none, wave) tried = by_wave c n o none wave tried
  by_verdict c (verdicts.Refused (reasons.DependsOn d)) o (none, was) (e, is, first) =
      subst (IsOutcome P forced budget S c) (sym is) (none, first)
  by_verdict c (verdicts.Refused reason) o first is = subst (IsOutcome P forced budget S c) (sym is) first

  settled : AreSettled P forced budget S
  settled = record {
    count = follow.count;
    each = λ c o at.
        let low = slice_get_within S.outcomes c o at in
        let (v, was) = one_of judged c (omega (arith, are.count, follow.count)) in
        by_verdict c v o (are.each c v was) (follow.each c v o was at);
    regions = follow.regions;
    only = follow.only;
  }

pub followers_are_settled_lem : FollowersAreSettled
followers_are_settled_lem P forced budget judged S are follow = settled P forced budget judged S are follow
