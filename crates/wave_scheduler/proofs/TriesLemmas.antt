-- What is found of a class in its wave.
use Rattle.std.proofs.Common.{◌≡◌, inl, inr, ℕ, ◌<◌, Bool, List, Some, IsSome, is_some}
use Rattle.std.proofs.Common.{refl, sym, ap, subst, ◌∙◌, arith}
use Rattle.std.proofs.lemmas.Bool.{cases_lt}
use Rattle.std.proofs.lemmas.Option.{slice_get_within}
use Rattle.vm_state.specs.SharedState.{Region}
use Rattle.semantics.specs.Quiet.{Environment, Refusal}
use Rattle.semantics.specs.Quiet as quiet
use Rattle.semantics.specs.Settling.{StoppedBy}
use Rattle.semantics.proofs.TestsLemmas.{from_some}
use Rattle.loading.specs.Families.{IsFamily, AreParentsWithin}
use Rattle.program.specs.Programs.{IsProgram}
use Rattle.program.specs.Tables.{Tables}
use Rattle.machine.specs.Linked.{program_of}
use Rattle.use_graph.specs.Uses.{IsUse}
use Rattle.initializer_analysis.specs.declared.verdict.Reason.TheVariants as reasons
use Rattle.initializer_analysis.specs.declared.verdict.Verdict.{Verdict}
use Rattle.initializer_analysis.specs.declared.verdict.Verdict.TheVariants as verdicts
use Rattle.initializer_analysis.specs.Verdicts as before
use Rattle.wave_scheduler.specs.Settled.{Wave, Settled, HasWave, region_in, below}
use Rattle.wave_scheduler.specs.Settled.{LeavesRegion}
use Rattle.wave_scheduler.specs.Laws.{AreSettledBelow}
use Rattle.wave_scheduler.specs.steps.Judged.{UsesAccepted}
use Rattle.wave_scheduler.specs.steps.Waves.{IsTriedIn, AreTriedBelow, Decides, WavesStart, WavesGoOn}
use Rattle.wave_scheduler.specs.steps.Waves.{WavesEnd, TriesDecide}
use Rattle.wave_scheduler.proofs.SettledLemmas.{same_wave, below_there}
use Rattle.wave_scheduler.proofs.MoreAtHandLemmas.{more_at_hand_lem}
use Rattle.wave_scheduler.proofs.WavesLemmas.{first_wave, next_wave}
use Rattle.wave_scheduler.proofs.WavesEndLemmas.{last_wave, accepted_before}

module _ (P : Tables) (forced : List Bool) (budget : ℕ) (judged : List Verdict) (n : ℕ) (S : Settled)
    (are : before.AreVerdicts P forced judged) (tried : AreTriedBelow P budget judged n S) where
  -- an accepted class of a lower wave was tried in it
  tried_so : (c m : ℕ) → HasWave S c m → m < n → before.HasWave judged c m
      × IsTriedIn P budget S c m (Wave m) (region_in S c)
  tried_so c m at low =
      let (k, wave) = accepted_before P forced budget judged n S are tried c (m, at) in
      elim (cases_lt k n) [
        | inl less ↦
            let found = tried.tried c k (Wave m) wave less at in
            let same : m ≡ k = found.0 in (
              subst (before.HasWave judged c) (sym same) wave,
              subst (λ (x : ℕ). IsTriedIn P budget S c x (Wave m) (region_in S c)) (sym same) found,
            )
        | inr high ↦ absurd (let (waits, none) = tried.waits c k wave high in
            let same = same_wave S c m k at waits in omega arith)
      ]

  settled_below : AreSettledBelow P budget S n
  settled_below c m region low at has =
      let (wave, (same, accepted, held, is, leaves)) = tried_so c m at low in
      subst (LeavesRegion P budget S c m) (from_some (sym is ∙ has)) leaves

  -- what a class of the next wave uses is at hand where it is accepted
  use_at_hand : (c e : ℕ) → before.HasWave judged c n → UsesAccepted P S c → IsUse P c e → IsSome (below S n e)
  use_at_hand c e at accepted used =
      let (m, wave, low) = (are.each c (verdicts.Wave n) at).1.above e used in
      let (k, here) = accepted e used in
      let (same, all, region, has, leaves) = tried.tried e m (Wave k) wave low here in
      let there : HasWave S e m = subst (HasWave S e) same here in
      ap is_some (below_there S n e m region there has low)

  module _ (is : IsProgram P) (fits : IsFamily P.family) (within : AreParentsWithin P.family) (c : ℕ)
      (at : before.HasWave judged c n) (accepted : UsesAccepted P S c) (env : Environment)
      (more : (d : ℕ) (region : Region) → below S n d ≡ Some region → env d ≡ Some region) where
    decides : Decides P budget S n c env
    decides =
        let low = slice_get_within judged c (verdicts.Wave n) at in
        let none = (are.each c (verdicts.Wave n) at).0 in
        let both = more_at_hand_lem P budget S n is fits within settled_below c (omega (arith, are.count))
        (λ mark. none (reasons.Marked mark)) (λ e used. use_at_hand c e at accepted used) env more in
        record {
          settles = λ cost region settles small.
              (refl, accepted, region, refl, both.0 cost region settles small);
          stops = λ why stops.
              let (reason, same, here) = both.1 (quiet.Refused why) stops in
              (accepted, subst (StoppedBy (program_of P) (below S n) c budget) (sym same) here, refl);
          unbarred = λ stops. (let (reason, same, here) = both.1 quiet.Barred stops in cc);
        }

pub waves_start_lem : WavesStart
waves_start_lem P forced budget judged S are starts = first_wave P forced budget judged S are starts

pub waves_go_on_lem : WavesGoOn
waves_go_on_lem P forced budget judged n old new are tried tries =
    next_wave P forced budget judged n old new are tried tries

pub waves_end_lem : WavesEnd
waves_end_lem P forced budget judged n old new flags first are tried all refused firsts told =
    last_wave P forced budget judged n old new flags first are tried all refused firsts told

pub tries_decide_lem : TriesDecide
tries_decide_lem P forced budget judged n S is fits within are tried c at accepted env more =
    decides P forced budget judged n S are tried is fits within c at accepted env more
