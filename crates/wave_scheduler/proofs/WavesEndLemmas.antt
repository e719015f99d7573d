-- At the end, where each class that depends on a refused one is told the first such, all follows the verdicts.
use Rattle.std.proofs.Common.{◌≡◌, inl, inr, ℕ, ◌<◌, ◌≤◌, Bool, List, length, Option}
use Rattle.std.proofs.Common.{Some, None, slice_get, slice_index_or, refl, sym, ap, subst, ◌∙◌, arith}
use Rattle.std.proofs.Math.Path.{fun_ext}
use Rattle.std.proofs.lemmas.Option.{slice_get_within, slice_get_past}
use Rattle.std.proofs.lemmas.Bool.{cases_lt}
use Rattle.vm_state.specs.SharedState.{Region}
use Rattle.semantics.specs.Quiet.{Environment}
use Rattle.semantics.specs.Quiet as quiet
use Rattle.semantics.specs.Settling.{Settles, StoppedBy}
use Rattle.semantics.proofs.TestsLemmas.{from_some}
use Rattle.program.specs.Tables.{Tables}
use Rattle.machine.specs.Linked.{program_of}
use Rattle.use_graph.specs.Uses.{IsUse}
use Rattle.initializer_analysis.specs.declared.verdict.Reason.{Reason}
use Rattle.initializer_analysis.specs.declared.verdict.Reason.TheVariants as reasons
use Rattle.initializer_analysis.specs.declared.verdict.Verdict.{Verdict}
use Rattle.initializer_analysis.specs.declared.verdict.Verdict.TheVariants as verdicts
use Rattle.initializer_analysis.specs.Verdicts as before
use Rattle.initializer_analysis.specs.Verdicts.{IsFirstRefused}
use Rattle.initializer_analysis.specs.Least.{IsFirst}
use Rattle.initializer_analysis.specs.RefusedUses.{IsRefusedUse, AreFirstRefused}
use Rattle.wave_scheduler.specs.Settled.{Outcome, Wave, Refused, Stopped, Settled, IsAccepted, region_in}
use Rattle.wave_scheduler.specs.Settled.{if_below, below}
use Rattle.wave_scheduler.specs.steps.Judged.{IsTried, Follows, FollowVerdicts}
use Rattle.wave_scheduler.specs.steps.Waves.{IsTriedIn, StaysRefused, AreTriedBelow, AreRefusedIn, dependent, HasFirst}
use Rattle.initializer_analysis.proofs.ReachesLemmas.{one_of}

-- ---- what is told anew

dependent-wave : (f : Option ℕ) (k : ℕ) → dependent f (Wave k) ≡ Wave k
dependent-wave None k = refl
dependent-wave (Some e) k = refl

dependent-below : (f : Option ℕ) (n : ℕ) (o : Outcome) (held : Option Region)
    → if_below n (Some (dependent f o)) held ≡ if_below n (Some o) held
dependent-below None n o held = refl
dependent-below (Some e) n (Wave k) held = refl
dependent-below (Some e) n (Stopped why) held = refl
dependent-below (Some e) n (Refused (reasons.DependsOn d)) held = refl
dependent-below (Some e) n (Refused reason) held = refl

dependent-back : (f : Option ℕ) (o : Outcome) (k : ℕ) → dependent f o ≡ Wave k → o ≡ Wave k
dependent-back None o k is = is
dependent-back (Some e) (Wave j) k is = is
dependent-back (Some e) (Stopped why) k is = cc
dependent-back (Some e) (Refused (reasons.DependsOn d)) k is = cc
dependent-back (Some e) (Refused reason) k is = cc

module _ (P : Tables) (forced : List Bool) (budget : ℕ) (judged : List Verdict) (n : ℕ) (S : Settled)
    (are : before.AreVerdicts P forced judged) (tried : AreTriedBelow P budget judged n S) where
  -- an accepted class had a wave
  pub accepted_before : (d : ℕ) → IsAccepted S d → before.IsAccepted judged d
  accepted_before d (k, at) =
      let low = slice_get_within S.outcomes d (Wave k) at in
      let (v, was) = one_of judged d (omega (arith, are.count, tried.count)) in
      by v was
    where
      never : (r : Reason) → slice_get judged d ≡ Some (verdicts.Refused r) → StaysRefused r (Wave k) → ⊥
      never (reasons.DependsOn x) was (e, is) = cc
      never reason was is = cc

      by : (v : Verdict) → slice_get judged d ≡ Some v → before.IsAccepted judged d
      by (verdicts.Wave m) was = (m, was)
      by (verdicts.Refused r) was = absurd (never r was (tried.refused d r (Wave k) was at))

module _ (P : Tables) (forced : List Bool) (budget : ℕ) (judged : List Verdict) (n : ℕ) (S T : Settled)
    (flags : List Bool) (first : List (Option ℕ)) (are : before.AreVerdicts P forced judged)
    (tried : AreTriedBelow P budget judged n S)
    (all : (c m : ℕ) → before.HasWave judged c m → m < n)
    (refused : AreRefusedIn P S flags) (firsts : AreFirstRefused P flags first) (told : HasFirst first S T) where
  -- ---- the same is accepted, with the same at hand

  still_accepted : (c : ℕ) → IsAccepted S c → IsAccepted T c
  still_accepted c (k, at) =
      (k, told.each c (Wave k) at ∙ ap (λ (o : Outcome). Some o) (dependent-wave (slice_index_or first c None) k))

  was_there : (c : ℕ) (o : Outcome) → slice_get T.outcomes c ≡ Some o
      → (p : Outcome) × (slice_get S.outcomes c ≡ Some p) × (dependent (slice_index_or first c None) p ≡ o)
  was_there c o at =
      let low = slice_get_within T.outcomes c o at in
      let (p, was) = one_of S.outcomes c (omega (arith, told.count)) in
      (p, was, from_some (sym (told.each c p was) ∙ at))

  was_accepted : (c : ℕ) → IsAccepted T c → IsAccepted S c
  was_accepted c (k, at) =
      let (p, was, is) = was_there c (Wave k) at in
      (k, was ∙ ap (λ (o : Outcome). Some o) (dependent-back (slice_index_or first c None) p k is))

  same_region : (c : ℕ) → region_in T c ≡ region_in S c
  same_region c = ap (λ (rs : List (Option Region)). slice_index_or rs c None) told.regions

  same_below : (k : ℕ) → below T k ≡ below S k
  same_below k = fun_ext (λ d. by d (slice_get S.outcomes d) refl)
    where
      by : (d : ℕ) (o : Option Outcome) → slice_get S.outcomes d ≡ o → below T k d ≡ below S k d
      by d None at =
          let none : slice_get T.outcomes d ≡ None = elim (cases_lt d (length T.outcomes)) [
            | inl low ↦ absurd (let (o, here) = one_of T.outcomes d low in
                let (p, was, is) = was_there d o here in let clash : None ≡ Some p = sym at ∙ was in cc)
            | inr high ↦ slice_get_past T.outcomes d high
          ] in
          ap (λ (o : Option Outcome). if_below k o (region_in T d)) none
          ∙ sym (ap (λ (o : Option Outcome). if_below k o (region_in S d)) at)
      by d (Some o) at =
          ap (λ (x : Option Outcome). if_below k x (region_in T d)) (told.each d o at)
          ∙ dependent-below (slice_index_or first d None) k o (region_in T d)
          ∙ ap (if_below k (Some o)) (same_region d)
          ∙ sym (ap (λ (x : Option Outcome). if_below k x (region_in S d)) at)

  -- ---- the first refused use

  first_told : (c d : ℕ) → c < length P.classes → IsUse P c d → (¬ IsAccepted S d)
      → (e : ℕ) × (slice_index_or first c None ≡ Some e) × IsFirstRefused P (IsAccepted T) c e
  first_told c d low used never = by (slice_index_or first c None) refl (firsts.each c low)
    where
      marked : (e : ℕ) → IsUse P c e → (¬ IsAccepted S e) → IsRefusedUse P flags c e
      marked e uses lacks = (uses, (refused.each e uses.0).1 lacks)

      by : (o : Option ℕ) → slice_index_or first c None ≡ o → IsFirst (IsRefusedUse P flags c) o
          → (e : ℕ) × (slice_index_or first c None ≡ Some e) × IsFirstRefused P (IsAccepted T) c e
      by None at none = absurd (none d (marked d used never))
      by (Some e) at ((uses, mark), least) = (
        e,
        at,
        (
          uses,
          λ accepted. (refused.each e uses.0).0 mark (was_accepted e accepted),
          λ l uses_l lacks. least l (marked l uses_l (λ accepted. lacks (still_accepted l accepted))),
        ),
      )

  -- ---- each class

  depends : (c d e : ℕ) (o : Outcome) → c < length P.classes → IsUse P c d → (¬ IsAccepted S d)
      → dependent (slice_index_or first c None) (Refused (reasons.DependsOn e)) ≡ o
      → (l : ℕ) × (o ≡ Refused (reasons.DependsOn l)) × IsFirstRefused P (IsAccepted T) c l
  depends c d e o low used never is =
      let (l, at, one) = first_told c d low used never in
      (l, sym is ∙ ap (λ (f : Option ℕ). dependent f (Refused (reasons.DependsOn e))) at, one)

  by_tried : (c m : ℕ) (p : Outcome) → c < length P.classes → IsTriedIn P budget S c m p (region_in S c)
      → IsTried P budget T c m (dependent (slice_index_or first c None) p)
  by_tried c m (Wave k) low (same, accepted, region, has, leaves) =
      subst (IsTried P budget T c m) (sym (dependent-wave (slice_index_or first c None) k)) (
        same,
        λ e used. still_accepted e (accepted e used),
        region,
        same_region c ∙ has,
        subst (λ (env : Environment). (cost : ℕ) × Settles (program_of P) env c cost region × (cost ≤ budget))
            (sym (same_below m)) leaves,
      )
  by_tried c m (Stopped why) low (accepted, stops, none) =
      subst (IsTried P budget T c m) (stopped (slice_index_or first c None)) (
        λ e used. still_accepted e (accepted e used),
        subst (λ (env : Environment). StoppedBy (program_of P) env c budget (quiet.Refused why))
            (sym (same_below m)) stops,
      )
    where
      stopped : (f : Option ℕ) → Stopped why ≡ dependent f (Stopped why)
      stopped None = refl
      stopped (Some e) = refl
  by_tried c m (Refused (reasons.DependsOn e)) low (d, used, never, none) =
      let (l, at, one) = first_told c d low used never in
      subst (IsTried P budget T c m) (sym (ap (λ (f : Option ℕ). dependent f (Refused (reasons.DependsOn e))) at)) one
  by_tried c m (Refused _) low never = absurd never

  same_own : (r : Reason) (f : Option ℕ) → ((d : ℕ) → r ≡ reasons.DependsOn d → ⊥)
      → dependent f (Refused r) ≡ Refused r
  same_own r None apart = refl
  same_own (reasons.DependsOn d) (Some e) apart = absurd (apart d refl)
  same_own reason (Some e) apart = refl

  follows : (c : ℕ) (v : Verdict) (p : Outcome) → c < length P.classes → slice_get judged c ≡ Some v
      → slice_get S.outcomes c ≡ Some p → Follows P budget T c v (dependent (slice_index_or first c None) p)
  follows c (verdicts.Wave m) p low at here =
      by_tried c m p low (tried.tried c m p at (all c m at) here)
  follows c (verdicts.Refused (reasons.DependsOn d)) p low at here =
      let (e, is) = tried.refused c (reasons.DependsOn d) p at here in
      let (none, (used, never, least)) = are.each c (verdicts.Refused (reasons.DependsOn d)) at in
      depends c d e (dependent (slice_index_or first c None) p) low used
      (λ accepted. never (accepted_before P forced budget judged n S are tried d accepted))
      (ap (dependent (slice_index_or first c None)) (sym is))
  follows c (verdicts.Refused reason) p low at here =
      ap (dependent (slice_index_or first c None)) (tried.refused c reason p at here)
      ∙ same_own reason (slice_index_or first c None) (λ d is. cc)

  pub last_wave : FollowVerdicts P budget judged T
  last_wave = record {
    count = told.count ∙ tried.count;
    each = λ c v o at here.
        let (p, was, is) = was_there c o here in
        let low = slice_get_within judged c v at in
        subst (Follows P budget T c v) is (follows c v p (omega (arith, are.count)) at was);
    regions = ap length told.regions ∙ tried.regions;
    only = λ c r has. still_accepted c (tried.only c r (sym (same_region c) ∙ has));
  }
