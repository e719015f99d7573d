-- Something follows the verdicts: wave by wave, each class is tried where all that it uses is at hand.
use Rattle.std.proofs.Common.{◌≡◌, ◌≢◌, ◌⊎◌, inl, inr, ℕ, zero, suc, ◌<◌, ◌≤◌, Bool, List}
use Rattle.std.proofs.Common.{length, Option, Some, None, IsSome, is_some, slice_get, refl, sym}
use Rattle.std.proofs.Common.{ap}
use Rattle.std.proofs.Common.{subst, ◌∙◌, arith}
use Rattle.std.proofs.Math.Path.{fun_ext}
use Rattle.std.proofs.lemmas.Bool.{cases_lt, le-ltb}
use Rattle.std.proofs.lemmas.Option.{slice_get_within}
use Rattle.vm_state.specs.SharedState.{Region}
use Rattle.semantics.specs.Quiet.{Environment, Refusal, Faulted, Stop, Barred}
use Rattle.semantics.specs.Quiet as quiet
use Rattle.semantics.specs.Settling.{Settles, StoppedBy}
use Rattle.semantics.proofs.BranchesLemmas.{none_or_some}
use Rattle.semantics.proofs.RefusalsLemmas.{settles_or_stops_lem}
use Rattle.semantics.proofs.TestsLemmas.{from_some}
use Rattle.loading.specs.Families.{IsFamily, AreParentsWithin}
use Rattle.program.specs.Programs.{IsProgram}
use Rattle.program.specs.Tables.{Tables}
use Rattle.machine.specs.Linked.{program_of}
use Rattle.use_graph.specs.Uses.{IsUse}
use Rattle.initializer_analysis.specs.declared.verdict.Reason.{Reason}
use Rattle.initializer_analysis.specs.declared.verdict.Reason.TheVariants as reasons
use Rattle.initializer_analysis.specs.declared.verdict.Verdict.{Verdict}
use Rattle.initializer_analysis.specs.declared.verdict.Verdict.TheVariants as verdicts
use Rattle.initializer_analysis.specs.Verdicts as before
use Rattle.initializer_analysis.specs.Verdicts.{IsFirstRefused}
use Rattle.wave_scheduler.specs.Settled.{Outcome, Wave, Refused, Stopped, Settled, HasWave, IsAccepted, region_in}
use Rattle.wave_scheduler.specs.Settled.{if_below, below, LeavesRegion}
use Rattle.wave_scheduler.specs.Laws.{AreSettledBelow, HasSettled}
use Rattle.wave_scheduler.specs.steps.Judged.{UsesAccepted, IsTried, Follows, FollowVerdicts, HasFollower}
use Rattle.initializer_analysis.proofs.HasVerdictsLemmas.{has_verdicts_lem}
use Rattle.initializer_analysis.proofs.ReachesLemmas.{Decided, decided_both, decided_same, one_of, IsLeast, least_below}
use Rattle.initializer_analysis.proofs.ReachesLemmas.{table, length_table, at_table, or_table, past_table}
use Rattle.initializer_analysis.proofs.UsesLemmas.{decided_use}
use Rattle.wave_scheduler.proofs.SettledLemmas.{below_there}
use Rattle.wave_scheduler.proofs.FewWavesLemmas.{few_waves_lem}
use Rattle.wave_scheduler.proofs.JudgedLemmas.{followers_are_settled_lem}
use Rattle.wave_scheduler.proofs.TriedLemmas.{never_barred_lem}

-- ---- one class

chosen : {m n : ℕ} → Decided (m ≡ n) → Option Region → Option Region → Option Region
chosen (inl same) one other = one
chosen (inr apart) one other = other

chosen-same : {m n : ℕ} (d : Decided (m ≡ n)) (one other : Option Region) → m ≡ n → chosen d one other ≡ one
unfolding chosen
chosen-same (inl same) one other is = refl
chosen-same (inr apart) one other is = absurd (apart is)

chosen-other : {m n : ℕ} (d : Decided (m ≡ n)) (one other : Option Region) → m ≢ n → chosen d one other ≡ other
unfolding chosen
chosen-other (inl same) one other not = absurd (not same)
chosen-other (inr apart) one other not = refl

decided_none : (o : Option Region) → Decided (o ≡ None)
decided_none None = inl refl
decided_none (Some r) = inr (λ is. cc)

abbrev why_of : Stop → Refusal
why_of (quiet.Refused why) = why
why_of Barred = Faulted

module _ (P : Tables) (budget : ℕ) where
  abbrev IsMissing : Environment → ℕ → ℕ → Type 0
  IsMissing env c e = IsUse P c e × (env e ≡ None)

  abbrev AreAtHand : Environment → ℕ → Type 0
  AreAtHand env c = (e : ℕ) → IsUse P c e → IsSome (env e)

  first_missing : (env : Environment) (c : ℕ)
      → ((e : ℕ) × IsLeast (IsMissing env c) e) ⊎ AreAtHand env c
  first_missing env c = elim (least_below (length P.classes) (IsMissing env c)
      (λ e. decided_both (decided_use P c e) (decided_none (env e)))) [
        | inl found ↦ inl found
        | inr none ↦ inr (λ e used. elim (none_or_some (env e)) [
          | inl lacks ↦ absurd (none e used.0 (used, lacks))
          | inr (r, at) ↦ ap is_some at
        ])
      ]

  -- what comes of trying a class with these regions at hand
  data Attempt (env : Environment) (c : ℕ) : Type 0 where
    Leaves : (region : Region) (cost : ℕ) → AreAtHand env c → Settles (program_of P) env c cost region
        → cost ≤ budget → Attempt env c
    Stops : (stop : Stop) → AreAtHand env c → StoppedBy (program_of P) env c budget stop → Attempt env c
    Lacks : (e : ℕ) → IsMissing env c e → Attempt env c

  attempt : (env : Environment) (c : ℕ) → Attempt env c
  attempt env c = elim (first_missing env c) [
    | inl (e, (missing, least)) ↦ Lacks e missing
    | inr all ↦ elim (settles_or_stops_lem (program_of P) env c budget) [
      | inl (cost, region, settles, fits) ↦ Leaves region cost all settles fits
      | inr (stop, stops) ↦ Stops stop all stops
    ]
  ]

  abbrev region_of : {env : Environment} {c : ℕ} → Attempt env c → Option Region
  region_of (Leaves region cost all settles fits) = Some region
  region_of (Stops stop all stops) = None
  region_of (Lacks e missing) = None

  module _ (judged : List Verdict) where
    -- ---- wave by wave

    abbrev tried : ℕ → Environment → ℕ → Option Verdict → Option Region
    tried n env d None = env d
    tried n env d (Some (verdicts.Refused reason)) = env d
    tried n env d (Some (verdicts.Wave m)) = chosen (decided_same m n) (region_of (attempt env d)) (env d)

    -- the regions after the waves below this one
    hand : ℕ → Environment
    hand zero d = None
    hand (suc n) d = tried n (hand n) d (slice_get judged d)

    hand_late : (n d : ℕ) → ((m : ℕ) → before.HasWave judged d m → n ≤ m) → hand n d ≡ None
    unfolding hand
    hand_late zero d late = refl
    hand_late (suc n) d late =
        by (slice_get judged d) refl (hand_late n d (λ m at. (let high = late m at in omega arith)))
      where
        by : (v : Option Verdict) → slice_get judged d ≡ v → hand n d ≡ None → tried n (hand n) d v ≡ None
        by None at rest = rest
        by (Some (verdicts.Refused reason)) at rest = rest
        by (Some (verdicts.Wave m)) at rest =
            chosen-other (decided_same m n) (region_of (attempt (hand n) d)) (hand n d)
            (λ same. (let high = late m at in omega arith)) ∙ rest

    hand_tried : (n d m : ℕ) → before.HasWave judged d m → m < n → hand n d ≡ region_of (attempt (hand m) d)
    unfolding hand
    hand_tried zero d m at low = absurd (omega arith)
    hand_tried (suc n) d m at low = elim (decided_same m n) [
      | inl same ↦ rw at (chosen-same (decided_same m n) (region_of (attempt (hand n) d)) (hand n d) same
          ∙ ap (λ (x : ℕ). region_of (attempt (hand x) d)) (sym same))
      | inr apart ↦ rw at (chosen-other (decided_same m n) (region_of (attempt (hand n) d)) (hand n d) apart
          ∙ hand_tried n d m at (omega arith))
    ]

    -- ---- what becomes of all

    abbrev number_of : {Q : Type 0} {A : ℕ → Type 0} → ((e : ℕ) × A e) ⊎ Q → ℕ
    number_of (inl (e, is)) = e
    number_of (inr q) = 0

    abbrev final : Environment
    final = hand (length P.classes)

    first : ℕ → ℕ
    first c = number_of (first_missing final c)

    abbrev by_attempt : (c n : ℕ) → Attempt (hand n) c → Outcome
    by_attempt c n (Leaves region cost all settles fits) = Wave n
    by_attempt c n (Stops stop all stops) = Stopped (why_of stop)
    by_attempt c n (Lacks e missing) = Refused (reasons.DependsOn (first c))

    abbrev outcome : ℕ → Option Verdict → Outcome
    outcome c None = Refused (reasons.DependsOn 0)
    outcome c (Some (verdicts.Refused (reasons.DependsOn d))) = Refused (reasons.DependsOn (first c))
    outcome c (Some (verdicts.Refused reason)) = Refused reason
    outcome c (Some (verdicts.Wave n)) = by_attempt c n (attempt (hand n) c)

    all_of : Settled
    all_of = record {
      outcomes = table (length P.classes) (λ c. outcome c (slice_get judged c));
      regions = table (length P.classes) final;
    }

module _ (P : Tables) (forced : List Bool) (budget : ℕ) (judged : List Verdict)
    (are : before.AreVerdicts P forced judged) where
  abbrev S : Settled
  S = all_of P budget judged

  abbrev at_hand : ℕ → Environment
  at_hand n = hand P budget judged n

  abbrev last : Environment
  last = final P budget judged

  is_class : (c : ℕ) (v : Verdict) → slice_get judged c ≡ Some v → c < length P.classes
  is_class c v at = (let low = slice_get_within judged c v at in omega (arith, are.count))

  outcome_at : (c : ℕ) (v : Verdict) → slice_get judged c ≡ Some v
      → slice_get S.outcomes c ≡ Some (outcome P budget judged c (Some v))
  unfolding all_of
  outcome_at c v at =
      at_table (length P.classes) (λ c. outcome P budget judged c (slice_get judged c)) c (is_class c v at)
      ∙ ap (λ (o : Option Verdict). Some (outcome P budget judged c o)) at

  outcomes_count : length S.outcomes ≡ length P.classes
  unfolding all_of
  outcomes_count = length_table (length P.classes) (λ c. outcome P budget judged c (slice_get judged c))

  -- a number that is no class's has nothing
  none_past : (c : ℕ) → slice_get judged c ≡ None → length P.classes ≤ c
  none_past c none = elim (cases_lt c (length P.classes)) [
    | inl low ↦ absurd (let (v, at) = one_of judged c (omega (arith, are.count)) in
        let clash : None ≡ Some v = sym none ∙ at in cc)
    | inr high ↦ high
  ]

  region_at : (c : ℕ) → region_in S c ≡ last c
  unfolding all_of
  region_at c = elim (cases_lt c (length P.classes)) [
    | inl low ↦ or_table (length P.classes) last c None low
    | inr high ↦ past_table (length P.classes) last c None high
        ∙ sym (hand_late P budget judged (length P.classes) c (λ m at.
        (let low = is_class c (verdicts.Wave m) at in absurd (omega arith))))
  ]

  wave_small : (c n : ℕ) → before.HasWave judged c n → n < length P.classes
  wave_small c n at = few_waves_lem P forced judged are c n at

  -- what the last regions have of a class of a wave
  last_tried : (c n : ℕ) → before.HasWave judged c n → last c ≡ region_of P budget (attempt P budget (at_hand n) c)
  last_tried c n at = hand_tried P budget judged (length P.classes) c n at (wave_small c n at)

  -- ---- what is accepted

  -- what is known of a class whose initializer was tried so
  tried_wave : (c n : ℕ) → before.HasWave judged c n → IsSome (last c) → HasWave S c n
  tried_wave c n at there = outcome_at c (verdicts.Wave n) at ∙ ap Some (by (attempt P budget (at_hand n) c)
      (subst (λ (o : Option Region). IsSome o) (last_tried c n at) there))
    where
      by : (a : Attempt P budget (at_hand n) c) → IsSome (region_of P budget a)
          → by_attempt P budget judged c n a ≡ Wave n
      by (Leaves region cost all settles fits) is = refl
      by (Stops stop all stops) is = cc
      by (Lacks e missing) is = cc

  -- an accepted class had its wave before, and its region is there
  record Has (c n : ℕ) : Type 0 where
    before_so : before.HasWave judged c n
    region : Region
    there : last c ≡ Some region
    all : AreAtHand P budget (at_hand n) c
    leaves : (cost : ℕ) × Settles (program_of P) (at_hand n) c cost region × (cost ≤ budget)

  accepted_has : (c n : ℕ) → HasWave S c n → Has c n
  accepted_has c n here = by (slice_get judged c) refl
    where
      same : (v : Verdict) → slice_get judged c ≡ Some v → outcome P budget judged c (Some v) ≡ Wave n
      same v at = from_some (sym (outcome_at c v at) ∙ here)

      never : (r : Reason) → outcome P budget judged c (Some (verdicts.Refused r)) ≡ Wave n → Has c n
      never (reasons.DependsOn d) is = absurd cc
      never reason is = absurd cc

      by_tried : (m : ℕ) (a : Attempt P budget (at_hand m) c) → attempt P budget (at_hand m) c ≡ a
          → before.HasWave judged c m → by_attempt P budget judged c m a ≡ Wave n → Has c n
      by_tried m (Stops stop all stops) is at wave = cc
      by_tried m (Lacks e missing) is at wave = cc
      by_tried m (Leaves region cost all settles fits) is at wave =
          let one : m ≡ n = cc in
          subst (Has c) one (record {
            before_so = at;
            region = region;
            there = last_tried c m at ∙ ap (region_of P budget) is;
            all = all;
            leaves = (cost, settles, fits);
          })

      by : (v : Option Verdict) → slice_get judged c ≡ v → Has c n
      by None at = absurd (let high = none_past c at in
          let low = slice_get_within S.outcomes c (Wave n) here in
          omega (arith, outcomes_count))
      by (Some (verdicts.Refused reason)) at = never reason (same (verdicts.Refused reason) at)
      by (Some (verdicts.Wave m)) at =
          by_tried m (attempt P budget (at_hand m) c) refl at (same (verdicts.Wave m) at)

  accepted_region : (c n : ℕ) → HasWave S c n → (r : Region) × (last c ≡ Some r)
  accepted_region c n at = (let has = accepted_has c n at in (has.region, has.there))

  -- a class whose region is there is accepted
  region_accepted : (c : ℕ) (r : Region) → last c ≡ Some r → IsAccepted S c
  region_accepted c r there = by (slice_get judged c) refl
    where
      late : ((m : ℕ) → before.HasWave judged c m → ⊥) → IsAccepted S c
      late none =
          let nothing = hand_late P budget judged (length P.classes) c (λ m at. absurd (none m at)) in
          absurd (let clash : None ≡ Some r = sym nothing ∙ there in cc)

      by : (v : Option Verdict) → slice_get judged c ≡ v → IsAccepted S c
      by None at = late (λ m wave. let clash = sym at ∙ wave in cc)
      by (Some (verdicts.Refused reason)) at = late (λ m wave. let clash = sym at ∙ wave in cc)
      by (Some (verdicts.Wave m)) at = (m, tried_wave c m at (ap is_some there))

  -- ---- what is at hand

  wave_at_hand : (n c m : ℕ) → before.HasWave judged c m → m < n → at_hand n c ≡ last c
  wave_at_hand n c m at low = hand_tried P budget judged n c m at low ∙ sym (last_tried c m at)

  below_is_hand : (n d : ℕ) → below S n d ≡ at_hand n d
  below_is_hand n d = by (slice_get S.outcomes d) refl
    where
      -- no region is there of a class that is not accepted
      none_there : ((k : ℕ) → HasWave S d k → ⊥) → at_hand n d ≡ None
      none_there never = by_verdict (slice_get judged d) refl
        where
          late : ((m : ℕ) → before.HasWave judged d m → ⊥) → at_hand n d ≡ None
          late none = hand_late P budget judged n d (λ m at. absurd (none m at))

          by_verdict : (v : Option Verdict) → slice_get judged d ≡ v → at_hand n d ≡ None
          by_verdict None at = late (λ m wave. let clash = sym at ∙ wave in cc)
          by_verdict (Some (verdicts.Refused reason)) at = late (λ m wave. let clash = sym at ∙ wave in cc)
          by_verdict (Some (verdicts.Wave m)) at = elim (cases_lt m n) [
            | inl low ↦ wave_at_hand n d m at low ∙ elim (none_or_some (last d)) [
              | inl none ↦ none
              | inr (r, there) ↦ absurd (never m (tried_wave d m at (ap is_some there)))
            ]
            | inr high ↦ hand_late P budget judged n d (λ k wave.
                (let two : Some (verdicts.Wave m) ≡ Some (verdicts.Wave k) = sym at ∙ wave in
                let one : m ≡ k = cc in omega arith))
          ]

      by : (o : Option Outcome) → slice_get S.outcomes d ≡ o → if_below n o (region_in S d) ≡ at_hand n d
      by None at = sym (none_there (λ k wave. let clash = sym at ∙ wave in cc))
      by (Some (Refused reason)) at = sym (none_there (λ k wave. let clash = sym at ∙ wave in cc))
      by (Some (Stopped why)) at = sym (none_there (λ k wave. let clash = sym at ∙ wave in cc))
      by (Some (Wave m)) at =
          let has = accepted_has d m at in elim (cases_lt m n) [
            | inl low ↦ ap (λ (o : Option Outcome). if_below n o (region_in S d)) (sym at)
                ∙ below_there S n d m has.region at (region_at d ∙ has.there) low
                ∙ sym (wave_at_hand n d m has.before_so low ∙ has.there)
            | inr high ↦ rw (le-ltb m n high) (sym (hand_late P budget judged n d (λ k wave.
                (let two : Some (verdicts.Wave m) ≡ Some (verdicts.Wave k) = sym has.before_so ∙ wave in
                let one : m ≡ k = cc in omega arith))))
          ]

  hand_is_below : (n : ℕ) → at_hand n ≡ below S n
  hand_is_below n = fun_ext (λ d. sym (below_is_hand n d))

  settled_below : (n : ℕ) → AreSettledBelow P budget S n
  settled_below n c m region low at there =
      let has = accepted_has c m at in
      let same : has.region ≡ region = from_some (sym has.there ∙ sym (region_at c) ∙ there) in
      subst (LeavesRegion P budget S c m) same
      (subst (λ (env : Environment). (cost : ℕ) × Settles (program_of P) env c cost has.region × (cost ≤ budget))
      (hand_is_below m) has.leaves)

  -- ---- each class

  -- a use that is not accepted makes a class depend on the first such
  depends : (c e : ℕ) → IsUse P c e → last e ≡ None → IsFirstRefused P (IsAccepted S) c (first P budget judged c)
  unfolding first
  depends c e used none = by (first_missing P budget last c)
    where
      lacks : (d : ℕ) → last d ≡ None → ¬ IsAccepted S d
      lacks d nothing (n, at) = (let (r, there) = accepted_region d n at in
          let clash : None ≡ Some r = sym nothing ∙ there in cc)

      nothing_of : (d : ℕ) → (¬ IsAccepted S d) → last d ≡ None
      nothing_of d never = elim (none_or_some (last d)) [
        | inl nothing ↦ nothing
        | inr (r, there) ↦ absurd (never (region_accepted d r there))
      ]

      by : (found : ((d : ℕ) × IsLeast (IsMissing P budget last c) d) ⊎ AreAtHand P budget last c)
          → IsFirstRefused P (IsAccepted S) c (number_of P budget judged found)
      by (inl (d, ((uses, nothing), least))) =
          (uses, lacks d nothing, λ k uses_k never. least k (uses_k, nothing_of k never))
      by (inr all) = absurd (let there = all e used in let clash = ap is_some (sym none) ∙ there in cc)

  -- a use of a class of a wave is of a lower one
  use_before : (c n e : ℕ) → before.HasWave judged c n → IsUse P c e → (m : ℕ) × before.HasWave judged e m × (m < n)
  use_before c n e at used = (are.each c (verdicts.Wave n) at).1.above e used

  use_kept : (c n e : ℕ) → before.HasWave judged c n → IsUse P c e → at_hand n e ≡ last e
  use_kept c n e at used = (let (m, wave, low) = use_before c n e at used in wave_at_hand n e m wave low)

  uses_accepted : (c n : ℕ) → before.HasWave judged c n → AreAtHand P budget (at_hand n) c → UsesAccepted P S c
  uses_accepted c n at all e used = elim (none_or_some (at_hand n e)) [
    | inl none ↦ absurd (let there = all e used in let clash = ap is_some (sym none) ∙ there in cc)
    | inr (r, there) ↦ region_accepted e r (sym (use_kept c n e at used) ∙ there)
  ]

  module _ (is : IsProgram P) (fits : IsFamily P.family) (within : AreParentsWithin P.family) where
    refused_is : (c n : ℕ) (stop : Stop) → before.HasWave judged c n → AreAtHand P budget (at_hand n) c
        → StoppedBy (program_of P) (below S n) c budget stop → stop ≡ quiet.Refused (why_of stop)
    refused_is c n stop at all stops =
        let none = (are.each c (verdicts.Wave n) at).0 in
        let (why, same) = never_barred_lem P budget S n is fits within (settled_below n) c
        (is_class c (verdicts.Wave n) at) (λ mark. none (reasons.Marked mark))
        (λ e used. subst (λ (o : Option Region). IsSome o) (sym (below_is_hand n e)) (all e used)) stop stops in
        same ∙ ap (λ (s : Stop). quiet.Refused (why_of s)) (sym same)

    follows_tried : (c n : ℕ) (a : Attempt P budget (at_hand n) c) → attempt P budget (at_hand n) c ≡ a
        → before.HasWave judged c n → IsTried P budget S c n (by_attempt P budget judged c n a)
    follows_tried c n (Lacks e (used, none)) is_so at =
        depends c e used (sym (use_kept c n e at used) ∙ none)
    follows_tried c n (Leaves region cost all settles small) is_so at = (
      refl,
      uses_accepted c n at all,
      region,
      region_at c ∙ last_tried c n at ∙ ap (region_of P budget) is_so,
      subst (λ (env : Environment). (price : ℕ) × Settles (program_of P) env c price region × (price ≤ budget))
          (hand_is_below n) (cost, settles, small),
    )
    follows_tried c n (Stops stop all stops) is_so at =
        let stops_so = subst (λ (env : Environment). StoppedBy (program_of P) env c budget stop) (hand_is_below n)
        stops in (
          uses_accepted c n at all,
          subst (StoppedBy (program_of P) (below S n) c budget) (refused_is c n stop at all stops_so) stops_so,
        )

    -- a class that was not accepted has no region
    refused_nothing : (d : ℕ) → (¬ before.IsAccepted judged d) → last d ≡ None
    refused_nothing d never = hand_late P budget judged (length P.classes) d (λ m at. absurd (never (m, at)))

    follows : (c : ℕ) (v : Verdict) → slice_get judged c ≡ Some v
        → Follows P budget S c v (outcome P budget judged c (Some v))
    follows c (verdicts.Refused (reasons.DependsOn d)) at =
        let (none, (used, refused, least)) = are.each c (verdicts.Refused (reasons.DependsOn d)) at in
        (first P budget judged c, refl, depends c d used (refused_nothing d refused))
    follows c (verdicts.Refused reason) at = refl
    follows c (verdicts.Wave n) at = follows_tried c n (attempt P budget (at_hand n) c) refl at

    all_follow : FollowVerdicts P budget judged S
    unfolding all_of
    all_follow = record {
      count = outcomes_count;
      each = λ c v o at here.
          subst (Follows P budget S c v) (from_some (sym (outcome_at c v at) ∙ here)) (follows c v at);
      regions = length_table (length P.classes) last;
      only = λ c r there. region_accepted c r (sym (region_at c) ∙ there);
    }

has_follower_lem : HasFollower
has_follower_lem P forced budget judged is fits within are =
    (S P forced budget judged are, all_follow P forced budget judged are is fits within)

pub has_settled_lem : HasSettled
has_settled_lem P forced budget is fits within =
    let (judged, are) = has_verdicts_lem P forced in
    let (last, follow) = has_follower_lem P forced budget judged is fits within are in
    (last, followers_are_settled_lem P forced budget judged last are follow)
