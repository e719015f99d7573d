-- Wave by wave: what was tried stays so, and at the end all follows the verdicts.
use Rattle.std.proofs.Common.{◌≡◌, inl, inr, ℕ, suc, ◌≤◌, Bool, List}
use Rattle.std.proofs.Common.{Option, Some, None, slice_get, refl, sym, ap, ap₂}
use Rattle.std.proofs.Common.{subst, ◌∙◌, arith}
use Rattle.std.proofs.Math.Path.{fun_ext}
use Rattle.std.proofs.lemmas.Bool.{le-ltb}
use Rattle.std.proofs.lemmas.Option.{slice_get_within}
use Rattle.vm_state.specs.SharedState.{Region}
use Rattle.semantics.specs.Quiet.{Environment}
use Rattle.semantics.specs.Quiet as quiet
use Rattle.semantics.specs.Settling.{Settles, StoppedBy}
use Rattle.semantics.proofs.TestsLemmas.{from_some}
use Rattle.program.specs.Tables.{Tables}
use Rattle.machine.specs.Linked.{program_of}
use Rattle.use_graph.specs.Uses.{IsUse}
use Rattle.initializer_analysis.specs.declared.verdict.Reason.{Reason}
use Rattle.initializer_analysis.specs.declared.verdict.Reason.TheVariants as reasons
use Rattle.initializer_analysis.specs.declared.verdict.Verdict.{Verdict}
use Rattle.initializer_analysis.specs.declared.verdict.Verdict.TheVariants as verdicts
use Rattle.initializer_analysis.specs.Verdicts as before
use Rattle.wave_scheduler.specs.Settled.{Outcome, Wave, Refused, Stopped, Settled, IsAccepted, region_in}
use Rattle.wave_scheduler.specs.Settled.{if_below, below, LeavesRegion}
use Rattle.wave_scheduler.specs.Outcomes.{outcome_of}
use Rattle.wave_scheduler.specs.steps.Waves.{IsTriedIn, StaysRefused, AreTriedBelow, TriesWave, StartsFrom}
use Rattle.initializer_analysis.proofs.ReachesLemmas.{Decided, decided_same, one_of}

-- whether a class had a wave
pub had_wave : (judged : List Verdict) (c n : ℕ) → Decided (before.HasWave judged c n)
had_wave judged c n = by (slice_get judged c)
  where
    by : (v : Option Verdict) → Decided (v ≡ Some (verdicts.Wave n))
    by None = inr (λ is. cc)
    by (Some (verdicts.Refused reason)) = inr (λ is. cc)
    by (Some (verdicts.Wave m)) = elim (decided_same m n) [
      | inl same ↦ inl (ap (λ (x : ℕ). Some (verdicts.Wave x)) same)
      | inr apart ↦ inr (λ is. apart (let one : m ≡ n = cc in one))
    ]

-- a class had one wave
pub one_before : (judged : List Verdict) (c m n : ℕ) → before.HasWave judged c m → before.HasWave judged c n → m ≡ n
one_before judged c m n first second =
    (let two : Some (verdicts.Wave m) ≡ Some (verdicts.Wave n) = sym first ∙ second in
    let one : verdicts.Wave m ≡ verdicts.Wave n = cc in cc)

module _ (P : Tables) (forced : List Bool) (budget : ℕ) (judged : List Verdict) (n : ℕ) (old new : Settled)
    (are : before.AreVerdicts P forced judged) (tried : AreTriedBelow P budget judged n old)
    (tries : TriesWave P budget judged n old new) where
  -- ---- what is at hand in a wave does not change

  late_nothing : (k d : ℕ) → k ≤ n → before.HasWave judged d n → below old k d ≡ None
  late_nothing k d small at = rw (tried.waits d n at (omega arith)).0 (rw (le-ltb n k small) refl)

  new_nothing : (k d : ℕ) → k ≤ n → before.HasWave judged d n → below new k d ≡ None
  new_nothing k d small at = by (slice_get new.outcomes d) refl
    where
      by : (o : Option Outcome) → slice_get new.outcomes d ≡ o → if_below k o (region_in new d) ≡ None
      by None here = refl
      by (Some (Refused reason)) here = refl
      by (Some (Stopped why)) here = refl
      by (Some (Wave m)) here =
          let same = (tries.here d (Wave m) at here).0 in
          rw (le-ltb m k (omega arith)) refl

  same_below : (k : ℕ) → k ≤ n → below new k ≡ below old k
  same_below k small = fun_ext (λ d. elim (had_wave judged d n) [
    | inl at ↦ new_nothing k d small at ∙ sym (late_nothing k d small at)
    | inr never ↦ ap₂ (if_below k) (tries.others d never).0 (tries.others d never).1
  ])

  -- ---- acceptance of classes of other waves does not change

  still_accepted : (e : ℕ) → (¬ before.HasWave judged e n) → IsAccepted old e → IsAccepted new e
  still_accepted e never (k, at) = (k, (tries.others e never).0 ∙ at)

  was_accepted : (e : ℕ) → (¬ before.HasWave judged e n) → IsAccepted new e → IsAccepted old e
  was_accepted e never (k, at) = (k, sym (tries.others e never).0 ∙ at)

  -- a use of a class of a wave up to this one has a lower wave
  use_apart : (c m e : ℕ) → before.HasWave judged c m → m ≤ n → IsUse P c e → ¬ before.HasWave judged e n
  use_apart c m e at small used wave =
      (let (k, here, less) = (are.each c (verdicts.Wave m) at).1.above e used in
      let same = one_before judged e k n here wave in omega arith)

  moved_leaves : (c m : ℕ) (region : Region) → m ≤ n → LeavesRegion P budget old c m region
      → LeavesRegion P budget new c m region
  moved_leaves c m region small leaves =
      subst (λ (env : Environment). (cost : ℕ) × Settles (program_of P) env c cost region × (cost ≤ budget))
      (sym (same_below m small)) leaves

  moved : (c m : ℕ) (o : Outcome) (held : Option Region) → before.HasWave judged c m → m ≤ n
      → IsTriedIn P budget old c m o held → IsTriedIn P budget new c m o held
  moved c m (Wave k) held at small (same, accepted, region, has, leaves) = (
    same,
    λ e used. still_accepted e (use_apart c m e at small used) (accepted e used),
    region,
    has,
    moved_leaves c m region small leaves,
  )
  moved c m (Stopped why) held at small (accepted, stops, none) = (
    λ e used. still_accepted e (use_apart c m e at small used) (accepted e used),
    subst (λ (env : Environment). StoppedBy (program_of P) env c budget (quiet.Refused why))
        (sym (same_below m small)) stops,
    none,
  )
  moved c m (Refused (reasons.DependsOn e)) held at small (d, used, never, none) =
      (d, used, λ accepted. never (was_accepted d (use_apart c m d at small used) accepted), none)
  moved c m (Refused _) held at small never = never

  held_accepted : (c : ℕ) (o : Outcome) (r : Region) → slice_get new.outcomes c ≡ Some o
      → IsTriedIn P budget old c n o (region_in new c) → region_in new c ≡ Some r → IsAccepted new c
  held_accepted c (Wave k) r at is has = (k, at)
  held_accepted c (Stopped why) r at (accepted, stops, none) has =
      absurd (let clash : None ≡ Some r = sym none ∙ has in cc)
  held_accepted c (Refused (reasons.DependsOn e)) r at (d, used, never, none) has =
      absurd (let clash : None ≡ Some r = sym none ∙ has in cc)
  held_accepted c (Refused _) r at never has = absurd never

  pub next_wave : AreTriedBelow P budget judged (suc n) new
  next_wave = record {
    count = tries.count;
    regions = tries.regions;
    tried = λ c m o at low here. elim (decided_same m n) [
      | inl same ↦
          let wave = subst (before.HasWave judged c) same at in
          moved c m o (region_in new c) at (omega arith)
          (subst (λ (x : ℕ). IsTriedIn P budget old c x o (region_in new c)) (sym same) (tries.here c o wave here))
      | inr apart ↦
          let never : ¬ before.HasWave judged c n = λ wave. apart (one_before judged c m n at wave) in
          moved c m o (region_in new c) at (omega arith)
          (subst (IsTriedIn P budget old c m o) (sym (tries.others c never).1)
          (tried.tried c m o at (omega arith) (sym (tries.others c never).0 ∙ here)))
    ];
    waits = λ c m at high.
        let never : ¬ before.HasWave judged c n = λ wave.
        (let same = one_before judged c m n at wave in omega arith) in
        let (wave, none) = tried.waits c m at (omega arith) in
        ((tries.others c never).0 ∙ wave, (tries.others c never).1 ∙ none);
    refused = λ c r o at here.
        let never : ¬ before.HasWave judged c n = λ wave. (let clash = sym at ∙ wave in cc) in
        tried.refused c r o at (sym (tries.others c never).0 ∙ here);
    only = λ c r has. elim (had_wave judged c n) [
      | inl at ↦
          let low = slice_get_within judged c (verdicts.Wave n) at in
          let (o, here) = one_of new.outcomes c (omega (arith, are.count, tries.count)) in
          held_accepted c o r here (tries.here c o at here) has
      | inr never ↦ still_accepted c never (tried.only c r (sym (tries.others c never).1 ∙ has))
    ];
  }

-- ---- at the start

starts_refused : (P : Tables) (forced : List Bool) (judged : List Verdict) (c : ℕ) (reason : Reason) (o : Outcome)
    → before.IsVerdict P forced judged c (verdicts.Refused reason) → o ≡ outcome_of (verdicts.Refused reason)
    → StaysRefused reason o
starts_refused P forced judged c (reasons.DependsOn d) o own is = (d, is)
starts_refused P forced judged c reasons.Forced o own is = is
starts_refused P forced judged c (reasons.Marked mark) o own is = is
starts_refused P forced judged c reasons.Cycle o own is = is
starts_refused P forced judged c _ o own is = absurd own.0

pub first_wave : (P : Tables) (forced : List Bool) (budget : ℕ) (judged : List Verdict) (S : Settled)
    → before.AreVerdicts P forced judged → StartsFrom judged S → AreTriedBelow P budget judged 0 S
first_wave P forced budget judged S are starts = record {
  count = starts.count ∙ are.count;
  regions = starts.regions ∙ are.count;
  tried = λ c m o at low here. absurd (omega arith);
  waits = λ c m at high. (starts.each c (verdicts.Wave m) at, starts.none c);
  refused = λ c r o at here.
      starts_refused P forced judged c r o (are.each c (verdicts.Refused r) at)
      (from_some (sym here ∙ starts.each c (verdicts.Refused r) at));
  only = λ c r has. (let clash : None ≡ Some r = sym (starts.none c) ∙ has in absurd cc);
}
