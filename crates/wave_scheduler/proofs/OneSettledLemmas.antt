-- There is one answer.
use Rattle.std.proofs.Common.{◌≡◌, ℕ, zero, suc, ◌<◌, ◌≤◌, Bool, List, Option, Some, None}
use Rattle.std.proofs.Common.{slice_get, slice_index_or, sym, ap, ap₂, subst, ◌∙◌, inl, inr, arith}
use Rattle.std.proofs.Math.Path.{fun_ext}
use Rattle.std.proofs.lemmas.Option.{slice_get_within}
use Rattle.vm_state.specs.SharedState.{Region}
use Rattle.semantics.specs.Quiet.{Environment, Refusal, Stop}
use Rattle.semantics.specs.Quiet as quiet
use Rattle.semantics.specs.Settling.{Settles, StoppedBy}
use Rattle.semantics.proofs.BranchesLemmas.{none_or_some}
use Rattle.semantics.proofs.EnvironmentsLemmas.{Extends, settles-wider}
use Rattle.semantics.proofs.OneRunLemmas.{settles_once}
use Rattle.semantics.proofs.RefusalsLemmas.{stop_excludes_lem, one_stop_lem}
use Rattle.semantics.proofs.TestsLemmas.{from_some}
use Rattle.program.specs.Tables.{Tables}
use Rattle.machine.specs.Linked.{program_of}
use Rattle.use_graph.specs.Uses.{IsUse}
use Rattle.initializer_analysis.specs.declared.verdict.Reason.{Reason}
use Rattle.initializer_analysis.specs.declared.verdict.Reason.TheVariants as reasons
use Rattle.initializer_analysis.specs.Verdicts.{NoneHolds, IsFirstReason, IsFirstRefused, IsWave}
use Rattle.initializer_analysis.proofs.VerdictsLemmas.{same_first}
use Rattle.wave_scheduler.specs.Settled.{Outcome, Wave, Refused, Stopped, Settled, HasWave, IsAccepted, region_in}
use Rattle.wave_scheduler.specs.Settled.{below, LeavesRegion, IsOutcome, AreSettled}
use Rattle.wave_scheduler.specs.Laws.{OneSettled}
use Rattle.initializer_analysis.proofs.ReachesLemmas.{one_of, same_lists, same_by_places}
use Rattle.wave_scheduler.proofs.SettledLemmas.{same_wave, below_there, from_below}

-- two environments that extend each other are one
same_at_hand : (first second : Environment) → Extends first second → Extends second first → first ≡ second
same_at_hand first second there back = fun_ext each
  where
    each : (d : ℕ) → first d ≡ second d
    each d = elim (none_or_some (first d)) [
      | inr (r, is) ↦ is ∙ sym (there d r is)
      | inl none ↦ elim (none_or_some (second d)) [
        | inl nor ↦ none ∙ sym nor
        | inr (r, is) ↦ back d r is ∙ sym is
      ]
    ]

module _ (P : Tables) (forced : List Bool) (budget : ℕ) where
  -- what becomes of a class, by its kind
  data Kind (S : Settled) (c : ℕ) : Outcome → Type 0 where
    own : {r : Reason} → IsFirstReason P forced c r → Kind S c (Refused r)
    dependent : {e : ℕ} → NoneHolds P forced c → IsFirstRefused P (IsAccepted S) c e
        → Kind S c (Refused (reasons.DependsOn e))
    accepted : {n : ℕ} {r : Region} → NoneHolds P forced c → IsWave P (HasWave S) c n → region_in S c ≡ Some r
        → LeavesRegion P budget S c n r → Kind S c (Wave n)
    stopped : {n : ℕ} {why : Refusal} → NoneHolds P forced c → IsWave P (HasWave S) c n
        → StoppedBy (program_of P) (below S n) c budget (quiet.Refused why) → Kind S c (Stopped why)

  kind_of : (S : Settled) (c : ℕ) (o : Outcome) → IsOutcome P forced budget S c o → Kind S c o
  kind_of S c (Wave n) (none, wave, r, there, leaves) = accepted none wave there leaves
  kind_of S c (Stopped why) (none, n, wave, stops) = stopped none wave stops
  kind_of S c (Refused (reasons.DependsOn e)) (none, first) = dependent none first
  kind_of S c (Refused reason) first = own first

  -- all uses are accepted in both, in the same waves
  abbrev AreUsedIn : Settled → Settled → ℕ → Type 0
  AreUsedIn S R c = (e : ℕ) → IsUse P c e → (m : ℕ) × HasWave S e m × HasWave R e m

  no_higher : (S R : Settled) (c n k : ℕ) → AreUsedIn S R c → IsWave P (HasWave S) c n
      → IsWave P (HasWave R) c k → n ≤ k
  no_higher S R c n k both first second = elim first.least [
    | inl none ↦ omega arith
    | inr (e, used, m, here, is) ↦ (let (x, one, two) = both e used in
        let (l, there, less) = second.above e used in
        omega (arith, same_wave S e m x here one, same_wave R e l x there two))
  ]

  one_wave : (S R : Settled) (c n k : ℕ) → AreUsedIn S R c → IsWave P (HasWave S) c n
      → IsWave P (HasWave R) c k → n ≡ k
  one_wave S R c n k both first second =
      let up = no_higher S R c n k both first second in
      let down = no_higher R S c k n (λ e used. (let (m, one, two) = both e used in (m, two, one))) second first in
      omega arith

  module _ (S R : Settled) (are : AreSettled P forced budget S) (also : AreSettled P forced budget R) where
    there : (c : ℕ) (o : Outcome) → slice_get S.outcomes c ≡ Some o → (p : Outcome) × (slice_get R.outcomes c ≡ Some p)
    there c o at = one_of R.outcomes c
        (let low = slice_get_within S.outcomes c o at in omega (arith, are.count, also.count))

    -- accepted in the one with this region, accepted in the other with it, too
    abbrev Is : ℕ → ℕ → Region → Type 0
    Is c n r = HasWave R c n × (region_in R c ≡ Some r)

    module _ (n c : ℕ) (r : Region)
        (lower : (e m : ℕ) (s : Region) → m < n → HasWave S e m → region_in S e ≡ Some s → Is e m s)
        (none : NoneHolds P forced c) (wave : IsWave P (HasWave S) c n) where
      used_in : AreUsedIn S R c
      used_in e used =
          let (m, here, less) = wave.above e used in
          let (nor, deep, s, region, leaves) = are.each e (Wave m) here in
          (m, here, (lower e m s less here region).0)

      extends : Extends (below S n) (below R n)
      extends d s at =
          let (m, here, less, region) = from_below S n d s at in
          let (also_here, also_region) = lower d m s less here region in
          below_there R n d m s also_here also_region less

      by_kind : (o : Outcome) → LeavesRegion P budget S c n r → slice_get R.outcomes c ≡ Some o → Kind R c o → Is c n r
      by_kind o leaves at (own {r = reason} first) = absurd (none reason first.0)
      by_kind o leaves at (dependent nor (used, refused, first)) =
          absurd (let (m, one, two) = used_in _ used in refused (m, two))
      by_kind o (cost, settles, fits) at (stopped {n = k} {why = why} nor deep stops) =
          absurd (stop_excludes_lem (program_of P) (below R n) c cost budget r (quiet.Refused why)
          (settles-wider (program_of P) (below S n) (below R n) extends c cost r settles) fits
          (subst (λ (x : ℕ). StoppedBy (program_of P) (below R x) c budget (quiet.Refused why))
          (sym (one_wave S R c n k used_in wave deep)) stops))
      by_kind o (cost, settles, fits) at (accepted {n = k} {r = s} nor deep region (price, also_settles, also_fits)) =
          let same : n ≡ k = one_wave S R c n k used_in wave deep in (
            at ∙ ap (λ (x : ℕ). Some (Wave x)) (sym same),
            region ∙ ap Some (settles_once (program_of P) (below R k) c price cost s r also_settles
                (subst (λ (x : ℕ). Settles (program_of P) (below R x) c cost r) same
                (settles-wider (program_of P) (below S n) (below R n) extends c cost r settles))).1,
          )

    accepted_below : (limit n c : ℕ) (r : Region) → n < limit → HasWave S c n → region_in S c ≡ Some r → Is c n r
    accepted_below zero n c r small at region = absurd (omega arith)
    accepted_below (suc limit) n c r small at region =
        let (none, wave, s, has, leaves) = are.each c (Wave n) at in
        let (o, found) = there c (Wave n) at in
        by_kind n c r (λ e m t less here has. accepted_below limit m e t (omega arith) here has) none wave o
        (subst (LeavesRegion P budget S c n) (from_some (sym has ∙ region)) leaves) found
        (kind_of R c o (also.each c o found))

    accepted_there : (n c : ℕ) (r : Region) → HasWave S c n → region_in S c ≡ Some r → Is c n r
    accepted_there n c r at region = accepted_below (suc n) n c r (omega arith) at region

    wave_there : (c n : ℕ) → HasWave S c n → HasWave R c n
    wave_there c n at = (let (none, wave, r, has, leaves) = are.each c (Wave n) at in (accepted_there n c r at has).0)

    extends_there : (n : ℕ) → Extends (below S n) (below R n)
    extends_there n d s at =
        let (m, here, less, region) = from_below S n d s at in
        let (also_here, also_region) = accepted_there m d s here region in
        below_there R n d m s also_here also_region less

    region_there : (c : ℕ) (r : Region) → region_in S c ≡ Some r → region_in R c ≡ Some r
    region_there c r has = (let (n, at) = are.only c r has in (accepted_there n c r at has).1)

module _ (P : Tables) (forced : List Bool) (budget : ℕ) (S R : Settled) (are : AreSettled P forced budget S)
    (also : AreSettled P forced budget R) where
  there_and_back : (n : ℕ) → below S n ≡ below R n
  there_and_back n = same_at_hand (below S n) (below R n) (extends_there P forced budget S R are also n)
      (extends_there P forced budget R S also are n)

  same_outcome : (c : ℕ) (o p : Outcome) → slice_get S.outcomes c ≡ Some o → slice_get R.outcomes c ≡ Some p
      → Kind P forced budget S c o → Kind P forced budget R c p → o ≡ p
  same_outcome c (Wave n) p at at_p (accepted none wave region leaves) kind =
      (let two : Some p ≡ Some (Wave n) = sym at_p ∙ wave_there P forced budget S R are also c n at in cc)
  same_outcome c o (Wave n) at at_p kind (accepted none wave region leaves) =
      (let two : Some o ≡ Some (Wave n) = sym at ∙ wave_there P forced budget R S also are c n at_p in cc)
  same_outcome c (Refused r) (Refused q) at at_p (own first) (own other) =
      ap (λ (x : Reason). Refused x) (same_first P forced c r q first other)
  same_outcome c (Refused r) (Refused q) at at_p (own first) (dependent none x) = absurd (none r first.0)
  same_outcome c (Refused r) (Refused q) at at_p (dependent none x) (own first) = absurd (none q first.0)
  same_outcome c (Refused r) (Refused q) at at_p (dependent {e = d} none (used, refused, first))
      (dependent {e = e} nor (also_used, so, least)) =
      ap (λ (x : ℕ). Refused (reasons.DependsOn x)) (omega (
        arith,
        first e also_used (λ (m, has). so (m, wave_there P forced budget S R are also e m has)),
        least d used (λ (m, has). refused (m, wave_there P forced budget R S also are d m has)),
      ))
  same_outcome c (Refused r) (Stopped why) at at_p (own first) (stopped none wave stops) = absurd (none r first.0)
  same_outcome c (Stopped why) (Refused r) at at_p (stopped none wave stops) (own first) = absurd (none r first.0)
  same_outcome c (Refused r) (Stopped why) at at_p (dependent none (used, refused, first)) (stopped nor wave stops) =
      absurd (let (m, has, less) = wave.above _ used in refused (m, wave_there P forced budget R S also are _ m has))
  same_outcome c (Stopped why) (Refused r) at at_p (stopped nor wave stops) (dependent none (used, refused, first)) =
      absurd (let (m, has, less) = wave.above _ used in refused (m, wave_there P forced budget S R are also _ m has))
  same_outcome c (Stopped why) (Stopped reason) at at_p (stopped {n = n} none wave stops)
      (stopped {n = k} nor deep halts) =
      let same : n ≡ k = one_wave P forced budget S R c n k (λ e used. (let (m, has, less) = wave.above e used in
      (m, has, wave_there P forced budget S R are also e m has))) wave deep in
      let halts_here = subst (λ (x : Environment). StoppedBy (program_of P) x c budget (quiet.Refused reason))
      (sym (ap (below S) same ∙ there_and_back k)) halts in
      let one : quiet.Refused why ≡ quiet.Refused reason =
      one_stop_lem (program_of P) (below S n) c budget (quiet.Refused why) (quiet.Refused reason) stops halts_here in
      let reasons_same : why ≡ reason = cc in
      ap (λ (x : Refusal). Stopped x) reasons_same

  same_outcomes : S.outcomes ≡ R.outcomes
  same_outcomes = same_lists S.outcomes R.outcomes (are.count ∙ sym also.count) (λ c o p at at_p.
      same_outcome c o p at at_p (kind_of P forced budget S c o (are.each c o at))
      (kind_of P forced budget R c p (also.each c p at_p)))

  same_regions : S.regions ≡ R.regions
  same_regions = same_by_places S.regions R.regions None (are.regions ∙ sym also.regions) each
    where
      each : (c : ℕ) → slice_index_or S.regions c None ≡ slice_index_or R.regions c None
      each c = elim (none_or_some (region_in S c)) [
        | inr (r, is) ↦ is ∙ sym (region_there P forced budget S R are also c r is)
        | inl none ↦ elim (none_or_some (region_in R c)) [
          | inl nor ↦ none ∙ sym nor
          | inr (r, is) ↦ region_there P forced budget R S also are c r is ∙ sym is
        ]
      ]

pub one_settled_lem : OneSettled
one_settled_lem P forced budget S R are also =
    ap₂ (λ (x : List Outcome) (y : List (Option Region)). record { outcomes = x; regions = y })
    (same_outcomes P forced budget S R are also) (same_regions P forced budget S R are also)
