-- A turn of a thread with a frame on top and no accepted class on its stack.
use Rattle.std.proofs.Common.{◌≡◌, ◌≢◌, ℕ, true, false, inl, inr, List, [], ◌∷◌, ◌==◌, refl, sym, ap, ◌∙◌, subst}
use Rattle.std.proofs.Common.{eqb-true}
use Rattle.vm_state.specs.declared.value.Maker.TheVariants.{Class}
use Rattle.vm_state.specs.declared.classes.ClassState.TheVariants.{InProgress}
use Rattle.vm_state.specs.declared.frame.Frame.{Frame}
use Rattle.vm_state.specs.declared.initialization.Level.{Level}
use Rattle.semantics.specs.Rows.{Result, Moved, Needs, Waits, run_row}
use Rattle.semantics.specs.Moves.{left_in}
use Rattle.semantics.specs.Steps.{Going, maker_of, left_by, instructed, step_thread}
use Rattle.semantics.specs.Worlds.{World, put_thread, step}
use Rattle.semantics.specs.Lawful.{KnowsOutcome}
use Rattle.semantics.specs.helpers.Lawful.{KnowsFrames, Owns}
use Rattle.vm_state.proofs.ListLemmas.{tested}
use Rattle.semantics.proofs.KnownNamesLemmas.{Fewer, KnowsFrames-mono}
use Rattle.semantics.proofs.VisibilityLemmas.{States, shown}
use Rattle.semantics.proofs.FrameMovesLemmas.{left_known}
use Rattle.semantics.proofs.SettingLemmas.{Setting}
use Rattle.semantics.proofs.SharedStatesLemmas as SharedStates
use Rattle.semantics.proofs.AgreeingRowsLemmas as AgreeingRows
use Rattle.semantics.proofs.OwnersLemmas.{own_of}
use Rattle.semantics.proofs.StacksLemmas.{NoneAccepted, none_higher}
use Rattle.semantics.proofs.ThreadsLemmas.{thread_at, put, going_within, erased-both}
use Rattle.semantics.proofs.InvariantLemmas as Invariant
use Rattle.semantics.proofs.InvariantLemmas.{Fuel}
use Rattle.semantics.proofs.VisibleStepsLemmas as VisibleSteps
use Rattle.semantics.proofs.TurnKindsLemmas as TurnKinds
use Rattle.semantics.proofs.TurnKindsLemmas.{stepping}

module _ (S : Setting) where
  -- no accepted class's initializer has a frame on top
  pub own_other : (t : ℕ) (ls : List Level) → NoneAccepted S.I ls → (c : ℕ) → S.I.holds c ≡ true
      → own_of (maker_of t ls) c ≡ false
  own_other t [] none c a = refl
  own_other t (l ∷ ls) none c a = elim (tested (l.initialization.class == c)) [
    | inl e ↦ (let clash : true ≡ false = sym a ∙ none c (inl (sym (eqb-true l.initialization.class c e))) in cc)
    | inr e ↦ e
  ]

  maker_other : (t : ℕ) (ls : List Level) → NoneAccepted S.I ls → (c : ℕ) → S.I.holds c ≡ true → maker_of t ls ≢ Class c
  maker_other t [] none c a e = cc
  maker_other t (l ∷ ls) none c a e =
      let same : l.initialization.class ≡ c = cc in
      let clash : true ≡ false = sym a ∙ none c (inl (sym same)) in
      cc

  module _ (fuel : Fuel) (w v : World) (t : ℕ) (f : Frame) (fs : List Frame) (ls : List Level)
      (b : TurnKinds.Beside S fuel w v)
      (at : thread_at w t ≡ Going (f ∷ fs) ls) (tower : Invariant.Tower S w.shared fuel t (f ∷ fs) ls)
      (none : NoneAccepted S.I ls)
      (k : KnowsFrames (shown S.I w.shared.states) (f ∷ fs)) (owns : Owns S.P (own_of (maker_of t ls)) (f ∷ fs)) where
    away : AgreeingRows.NoneBy S t w.shared
    away = VisibleSteps.none_by S fuel w t (f ∷ fs) ls b.inv at none

    here_steps : (r : Result) → run_row t (maker_of t ls) w.shared (S.P.row f) ≡ r →
        step S.P w t ≡ put_thread w t (instructed S.P w.shared t (f ∷ fs) ls r)
    unfolding step_thread
    here_steps r e = stepping S.P w t (Going (f ∷ fs) ls) at
        ∙ ap (λ (x : Result). put_thread w t (instructed S.P w.shared t (f ∷ fs) ls x)) e

    there_steps : (r : Result) → run_row t (maker_of t ls) v.shared (S.P.row f) ≡ r →
        step S.P v t ≡ put_thread v t (instructed S.P v.shared t (f ∷ fs) ls r)
    unfolding step_thread
    there_steps r e =
        stepping S.P v t (Going (f ∷ fs) ls) (TurnKinds.there S fuel w v t (f ∷ fs) ls b at none)
        ∙ ap (λ (x : Result). put_thread v t (instructed S.P v.shared t (f ∷ fs) ls x)) e

    go : (r rv : Result) → run_row t (maker_of t ls) w.shared (S.P.row f) ≡ r →
        run_row t (maker_of t ls) v.shared (S.P.row f) ≡ rv → AgreeingRows.Agrees S w.shared.regions w.shared r rv →
        TurnKinds.Turn S fuel w v t
    go (Moved outcome sh') rv e ev m =
        let names : Fewer (shown S.I w.shared.states) (shown S.I sh'.states) =
        VisibleSteps.same_names S w.shared.states sh'.states m.states in
        let low : VisibleSteps.Foot S sh' fuel t ls =
        VisibleSteps.foot_visible S w.shared sh' fuel fuel t ls
        (VisibleSteps.foot S w.shared fuel t (f ∷ fs) ls tower none) names in
        let stands : Invariant.StandsAt S sh' fuel t (left_by S.P outcome (f ∷ fs) ls) =
        VisibleSteps.left_foot S sh' fuel t (left_in outcome (f ∷ fs)) (f ∷ fs) ls low
        (KnowsFrames-mono _ _ names (f ∷ fs) k)
        (left_known (shown S.I sh'.states) outcome (f ∷ fs)
        (subst (λ (st : States). KnowsOutcome (shown S.I st) outcome) (sym m.states) m.outcome_known)
        (KnowsFrames-mono _ _ names (f ∷ fs) k)) in
        TurnKinds.Alike fuel (put w t sh' (left_by S.P outcome (f ∷ fs) ls))
        (put v t m.other (left_by S.P outcome (f ∷ fs) ls))
        (here_steps _ e) (there_steps _ (ev ∙ m.same))
        (record {
          inv = Invariant.invariant_put S fuel fuel w t sh' _ (going_within w t (f ∷ fs) ls at) b.inv
              (VisibleSteps.row_changes S fuel w t outcome sh' rv _ b.inv away m
              (SharedStates.named_after S (S.P.row f) (S.lawful.row_named f) t (maker_of t ls) (maker_other t ls none)
              w.shared sh' outcome e m.states b.inv.named) stands);
          erased =
              erased-both S.I w v t sh' m.other _ _ b.erased m.like
              (sym (VisibleSteps.cut_left S (left_in outcome (f ∷ fs)) (f ∷ fs) ls none));
        })
        (λ d a. ap (λ (st : States). st d) m.states)
        away
    go (Needs c) rv e ev (un, which) = elim which [
      | inl a ↦ TurnKinds.begin_turn S fuel w v t c (f ∷ fs) ls b at tower a un (none_higher S (S.wave c) ls none)
          (here_steps _ e)
      | inr p ↦
          TurnKinds.begin_plain_turn S fuel w v t c (f ∷ fs) ls b at tower p.0 un none (here_steps _ e)
          (there_steps _ (ev ∙ p.1))
    ]
    go Waits rv e ev which = TurnKinds.Neither (here_steps _ e) (elim which [
      | inl p ↦ inl (p.0, p.1, p.2, p.3, other_thread p.0 p.1 p.2 p.3)
      | inr q ↦ inr (there_steps _ (ev ∙ q))
    ])
      where
        other_thread : (c u : ℕ) → S.I.holds c ≡ true → w.shared.states c ≡ InProgress u → (t == u) ≡ false
        other_thread c u a s = elim (tested (t == u)) [
          | inl x ↦ absurd (away c a (s ∙ ap InProgress (sym (eqb-true t u x))))
          | inr x ↦ x
        ]

    pub frame_turn : TurnKinds.Turn S fuel w v t
    frame_turn =
        go (run_row t (maker_of t ls) w.shared (S.P.row f)) (run_row t (maker_of t ls) v.shared (S.P.row f)) refl refl
        (AgreeingRows.agree S t (maker_of t ls) (maker_other t ls none) (own_of (maker_of t ls))
        (own_other t ls none) w.shared.regions
        (S.P.row f) w.shared v.shared b.inv.sane b.erased.shared b.inv.sound away (λ c h. refl)
        (S.lawful.row _ (own_of (maker_of t ls)) f k.0 owns.0))
