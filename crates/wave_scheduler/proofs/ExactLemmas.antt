-- The image of the settled regions holds exactly the accepted classes.
use Rattle.std.proofs.Common.{◌≡◌, ℕ, zero, suc, ◌<◌, ◌≤◌, Bool, true, List, length, Some, IsSome}
use Rattle.std.proofs.Common.{is_some, slice_get, sym, ap, subst, ◌∙◌, arith}
use Rattle.std.specs.List.{Contains}
use Rattle.vm_state.specs.SharedState.{Region}
use Rattle.semantics.specs.Quiet.{Environment}
use Rattle.semantics.specs.Quiet as quiet
use Rattle.semantics.specs.Settling.{Settles}
use Rattle.semantics.specs.Acceptance.{Analysis, IsLower, Accepted, Accepts}
use Rattle.semantics.specs.Acceptance as acceptance
use Rattle.semantics.proofs.BranchesLemmas.{value_in}
use Rattle.semantics.proofs.EnvironmentsLemmas.{Extends, settles-wider}
use Rattle.semantics.proofs.AcceptedRegionsLemmas.{accepted_once}
use Rattle.semantics.proofs.RefusalsLemmas.{stop_excludes_lem}
use Rattle.semantics.proofs.TestsLemmas.{from_some}
use Rattle.semantics.proofs.WavesLemmas.{wave_once}
use Rattle.semantics.proofs.WithinAcceptedLemmas.{lower_still}
use Rattle.program.specs.Tables.{Tables}
use Rattle.initializer_analysis.proofs.ReachesLemmas.{one_of}
use Rattle.machine.specs.Linked.{program_of}
use Rattle.use_graph.specs.Uses.{IsUse}
use Rattle.initializer_analysis.specs.declared.verdict.Reason.TheVariants as reasons
use Rattle.initializer_analysis.specs.Verdicts.{NoneHolds, UsesAlong, one, more}
use Rattle.wave_scheduler.specs.Settled.{Outcome, Wave, Refused, Stopped, Settled, HasWave, region_in, below}
use Rattle.wave_scheduler.specs.Settled.{IsOutcome, AreSettled}
use Rattle.wave_scheduler.specs.Laws.{IsAllowed, IsAnalysis, SettledAreExact}
use Rattle.wave_scheduler.proofs.SettledLemmas.{below_there, from_below, is_class, wave_is, accepted_wave}

none_allowed : (P : Tables) (forced : List Bool) (c : ℕ) → NoneHolds P forced c → IsAllowed P forced c
none_allowed P forced c none = (none reasons.Forced, λ mark. none (reasons.Marked mark))

module _ (P : Tables) (forced : List Bool) (budget : ℕ) (S : Settled) (A : Analysis)
    (are : AreSettled P forced budget S) (is : IsAnalysis P forced budget A) where
  abbrev IsIn : ℕ → Region → Type 0
  IsIn c r = Accepted (program_of P) A c r

  -- ---- what is settled is accepted

  -- a use of an accepted class is at hand
  use_at_hand : (c n e : ℕ) → HasWave S c n → IsUse P c e → (r : Region) × (below S n e ≡ Some r)
  use_at_hand c n e at used =
      let (m, here, less) = (are.each c (Wave n) at).1.above e used in
      let (none, wave, r, there, leaves) = are.each e (Wave m) here in
      (r, below_there S n e m r here there less)

  sound : (limit c n : ℕ) (r : Region) → n < limit → HasWave S c n → region_in S c ≡ Some r → IsIn c r
  sound zero c n r small at here = absurd (omega arith)
  sound (suc limit) c n r small at here =
      let (none, wave, s, there, (cost, settles, fits)) = are.each c (Wave n) at in
      let low = is_class P forced budget S A are is c n at in
      subst (IsIn c) (from_some (sym there ∙ here))
      (Accepts c s (below S n) cost low ((is.allowed c low).1 (none_allowed P forced c none))
      (λ d uses. ap is_some (use_at_hand c n d at ((is.uses c d low).0 uses)).1)
      (λ d t has. (let (m, also, less, region) = from_below S n d t has in
      (m, n, accepted_wave P forced budget S A are is d m also, accepted_wave P forced budget S A are is c n at, less)))
      (λ d t has. (let (m, also, less, region) = from_below S n d t has in
      sound limit d m t (omega arith) also region))
      settles (omega (arith, is.bound)))

  -- ---- what is accepted is settled

  use_accepted : {c : ℕ} {r : Region} → IsIn c r → (e : ℕ) → IsUse P c e
      → (s : Region) × IsIn e s × IsLower A.uses e c
  use_accepted (Accepts c r env n low allowed some lower known settles within) e used =
      let (s, at) = value_in (env e) (some e ((is.uses c e low).1 used)) in
      (s, known e s at, lower e s at)

  -- all that an accepted class uses, by one use or several, is accepted and of a lower wave
  along_lower : {c e : ℕ} (r : Region) → IsIn c r → UsesAlong P c e → (s : Region) × IsIn e s × IsLower A.uses e c
  along_lower r accepted (one {e = e} used) = use_accepted accepted e used
  along_lower {c = c} r accepted (more {d = d} {e = e} uses used) =
      let (s, next, lower) = along_lower r accepted uses in
      let (t, last, below_it) = use_accepted next e used in
      (t, last, lower_still A.uses e d c below_it lower)

  never_lower : (c : ℕ) → IsLower A.uses c c → ⊥
  never_lower c (m, n, first, second, less) = omega (arith, wave_once first second)

  module _ (c : ℕ) (r : Region) (env : Environment) (n : ℕ) (low : c < length P.classes)
      (allowed : A.allowed c ≡ true) (some : (d : ℕ) → Contains (A.uses c) d → IsSome (env d))
      (lower : (d : ℕ) (s : Region) → env d ≡ Some s → IsLower A.uses d c)
      (known : (d : ℕ) (s : Region) → env d ≡ Some s → IsIn d s)
      (here : (d : ℕ) (s : Region) → env d ≡ Some s → region_in S d ≡ Some s)
      (settles : Settles (program_of P) env c n r) (within : n ≤ A.budget) where
    accepted : IsIn c r
    accepted = Accepts c r env n low allowed some lower known settles within

    extends : (k : ℕ) → acceptance.IsWave A.uses c k → Extends env (below S k)
    extends k wave d s at =
        let (m, has) = are.only d s (here d s at) in
        let (i, j, of_d, of_c, less) = lower d s at in
        below_there S k d m s has (here d s at)
        (omega (arith, wave_once of_d (accepted_wave P forced budget S A are is d m has), wave_once of_c wave))

    by_outcome : (o : Outcome) → slice_get S.outcomes c ≡ Some o → IsOutcome P forced budget S c o
        → region_in S c ≡ Some r
    unfolding accepted
    by_outcome (Wave k) at (none, wave, s, there, leaves) =
        there ∙ ap Some (accepted_once (program_of P) A (sound (suc k) c k s (omega arith) at there) r accepted)
    by_outcome (Stopped why) at (none, k, wave, stopped) =
        absurd (stop_excludes_lem (program_of P) (below S k) c n budget r (quiet.Refused why)
        (settles-wider (program_of P) env (below S k)
        (extends k (wave_is P forced budget S A are is c k low wave)) c n r settles)
        (omega (arith, is.bound)) stopped)
    by_outcome (Refused (reasons.DependsOn e)) at (none, (used, refused, least)) =
        absurd (let (s, has) = value_in (env e) (some e ((is.uses c e low).1 used)) in
        refused (are.only e s (here e s has)))
    by_outcome (Refused reasons.Forced) at first = absurd (((is.allowed c low).0 allowed).0 first.0)
    by_outcome (Refused (reasons.Marked mark)) at first = absurd (((is.allowed c low).0 allowed).1 mark first.0)
    by_outcome (Refused reasons.Cycle) at first =
        absurd (let (s, again, down) = along_lower r accepted first.0 in never_lower c down)
    by_outcome (Refused _) at first = absurd first.0

    settled : region_in S c ≡ Some r
    settled =
        let (o, at) = one_of S.outcomes c (omega (arith, are.count)) in
        by_outcome o at (are.each c o at)

  complete : {c : ℕ} {r : Region} → IsIn c r → region_in S c ≡ Some r
  complete (Accepts c r env n low allowed some lower known settles within) =
      settled c r env n low allowed some lower known (λ d s at. complete (known d s at)) settles within

pub settled_are_exact_lem : SettledAreExact
settled_are_exact_lem P forced budget S A I are is image = record {
  sound = λ c held.
      let (r, there) = value_in (region_in S c) (sym (image.holds c) ∙ held) in
      let (n, at) = are.only c r there in
      subst (Accepted (program_of P) A c) (sym (image.region c r there))
      (sound P forced budget S A are is (suc n) c n r (omega arith) at there);
  complete = λ c r accepted. image.holds c ∙ ap is_some (complete P forced budget S A are is accepted);
}
