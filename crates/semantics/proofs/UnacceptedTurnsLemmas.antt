-- A turn of a thread with the initialization of a class on top that is not accepted: both worlds step alike, or the
-- lazy one has an accepted parent to initialize first.
use Rattle.std.proofs.Common.{◌≡◌, ◌≢◌, ℕ, Bool, true, false, ◌⊎◌, inl, inr, List, [], ◌∷◌, Option, Some, None, ◌==◌}
use Rattle.std.proofs.Common.{refl, sym, ap, ◌∙◌}
use Rattle.std.proofs.Common.{subst, eqb-true}
use Rattle.vm_state.specs.declared.value.Name.{Name}
use Rattle.vm_state.specs.declared.value.Maker.{Maker}
use Rattle.vm_state.specs.declared.value.Maker.TheVariants.{Class}
use Rattle.vm_state.specs.declared.classes.ClassState.{ClassState}
use Rattle.vm_state.specs.declared.classes.ClassState.TheVariants.{InProgress, Initialized, Erroneous}
use Rattle.vm_state.specs.declared.classes.Usability.{Usability}
use Rattle.vm_state.specs.declared.ends.FaultKind.TheVariants.{Fault}
use Rattle.vm_state.specs.declared.frame.Frame.{Frame}
use Rattle.vm_state.specs.declared.initialization.Level.{Level}
use Rattle.vm_state.specs.Statics.{usable}
use Rattle.vm_state.specs.SharedState.{SharedState, set_state}
use Rattle.semantics.specs.Rows.{Outcome, Halt, Row, Ends, UseClass, ReadStatic, WriteStatic, AskClass, LookInto}
use Rattle.semantics.specs.Rows.{Change}
use Rattle.semantics.specs.Rows.{Make, UseMonitor, Print}
use Rattle.semantics.specs.Rows.{Result, Moved, run_row}
use Rattle.semantics.specs.Moves.{Left, Stand, Throw, Stop, left_in}
use Rattle.semantics.specs.Steps.{Going, going_on, fails, finishes, initializes, passes, step_parents}
use Rattle.semantics.specs.Steps.{step_initialization}
use Rattle.semantics.specs.Steps.{step_thread, maker_of}
use Rattle.semantics.specs.Worlds.{World, put_thread, step}
use Rattle.semantics.specs.Erasure.{IsErasedState}
use Rattle.semantics.specs.Lawful.{KnowsName, Fits, IsPlain, LeavesNamed}
use Rattle.semantics.specs.helpers.Lawful.{KnowsFrames}
use Rattle.vm_state.proofs.ListLemmas.{tested}
use Rattle.semantics.proofs.KnownNamesLemmas.{Fewer, KnowsFrames-mono}
use Rattle.semantics.proofs.VisibilityLemmas.{States, shown}
use Rattle.semantics.proofs.UsabilitiesLemmas.{usable_fresh, usable_busy}
use Rattle.semantics.proofs.FrameMovesLemmas.{KnowsLeft, left_known}
use Rattle.semantics.proofs.SettingLemmas.{Setting}
use Rattle.semantics.proofs.SharedStatesLemmas as SharedStates
use Rattle.semantics.proofs.AgreeingRowsLemmas as AgreeingRows
use Rattle.semantics.proofs.OwnersLemmas.{own_of}
use Rattle.semantics.proofs.StateChangesLemmas.{set_state-erased}
use Rattle.semantics.proofs.StacksLemmas.{On, OnThread, NoneAccepted, none_higher, none_with}
use Rattle.semantics.proofs.ThreadsLemmas.{thread_at, put, going_within, erased-both}
use Rattle.semantics.proofs.InvariantLemmas as Invariant
use Rattle.semantics.proofs.InvariantLemmas.{Fuel}
use Rattle.semantics.proofs.VisibleStepsLemmas as VisibleSteps
use Rattle.semantics.proofs.InitializerStepsLemmas as InitializerSteps
use Rattle.semantics.proofs.TurnKindsLemmas as TurnKinds
use Rattle.semantics.proofs.TurnKindsLemmas.{stepping}
use Rattle.semantics.proofs.FrameTurnsLemmas.{own_other}

-- a row that needs no class and no monitor moves
plain_moves : (t : ℕ) (maker : Maker) (row : Row) (sh : SharedState) → IsPlain row →
    (outcome : Outcome) × (new : SharedState) × (run_row t maker sh row ≡ Moved outcome new)
plain_moves t maker (Ends outcome) sh h = (outcome, sh, refl)
plain_moves t maker (UseClass c next) sh h = absurd h
plain_moves t maker (ReadStatic c f next) sh h = absurd h
plain_moves t maker (WriteStatic c f v next) sh h = absurd h
plain_moves t maker (AskClass x next) sh h = plain_moves t maker (next _) sh (h _)
plain_moves t maker (LookInto x part next) sh h = plain_moves t maker (next _) sh (h _)
plain_moves t maker (Change x i v next) sh h = plain_moves t maker next _ h
plain_moves t maker (Make class slots next) sh h = plain_moves t maker (next _) _ (h _)
plain_moves t maker (UseMonitor x enter next) sh h = absurd h
plain_moves t maker (Print text next) sh h = plain_moves t maker next _ h

module _ (S : Setting) where
  tower_frames : (sh : SharedState) (fuel : Fuel) (t : ℕ) (fs : List Frame) (ls : List Level)
      → Invariant.Tower S sh fuel t fs ls →
      NoneAccepted S.I ls → KnowsFrames (shown S.I sh.states) fs
  tower_frames sh fuel t fs ls (Invariant.Base k) none = k
  tower_frames sh fuel t fs ls (Invariant.Plain n k p none' rest) none = k
  tower_frames sh fuel t fs ls (Invariant.Inside {l = l} a by p k going higher rest) none =
      (let clash : true ≡ false = sym a ∙ none l.initialization.class (inl refl) in cc)

  -- a thread with such an initialization on top, and what the invariant says of it
  pub record OnPlain (fuel : Fuel) (w : World) (t : ℕ) (l : Level) (ls : List Level) : Type 0 where
    pub at : thread_at w t ≡ Going [] (l ∷ ls)
    pub other : S.I.holds l.initialization.class ≡ false
    pub pending : KnowsName (shown S.I w.shared.states) l.initialization.pending
    pub none : NoneAccepted S.I ls
    pub rest : Invariant.Tower S w.shared fuel t l.under ls

  module _ (fuel : Fuel) (w v : World) (t : ℕ) (l : Level) (ls : List Level) (b : TurnKinds.Beside S fuel w v)
      (on : OnPlain fuel w t l ls) where
    abbrev pub c : ℕ
    c = l.initialization.class

    all_none : NoneAccepted S.I (l ∷ ls)
    all_none = none_with S.I l ls on.other on.none

    away : AgreeingRows.NoneBy S t w.shared
    away = VisibleSteps.none_by S fuel w t [] (l ∷ ls) b.inv on.at all_none

    tower : Invariant.Tower S w.shared fuel t [] (l ∷ ls)
    tower = Invariant.Plain on.other tt on.pending on.none on.rest

    under_known : KnowsFrames (shown S.I w.shared.states) l.under
    under_known = tower_frames w.shared fuel t l.under ls on.rest on.none

    left_mono : (sh sh' : SharedState) → Fewer (shown S.I sh.states) (shown S.I sh'.states) → (left : Left) →
        KnowsLeft (shown S.I sh.states) left → KnowsLeft (shown S.I sh'.states) left
    left_mono sh sh' h (Stand fs) k = KnowsFrames-mono _ _ h fs k
    left_mono sh sh' h (Throw x class) k = h x k
    left_mono sh sh' h (Stop kind) k = tt

    -- ---- the class ends, in both worlds, in this state, and the stack goes on below

    ends_turn : (s : ClassState) (left : Left) (outcome : Outcome) (sh' sv' : SharedState) (r : Result) →
        AgreeingRows.MovedAlike S w.shared.regions w.shared.states outcome sh' r
        → SharedStates.HasNamed S sh'.states sh'.regions → KnowsLeft (shown S.I w.shared.states) left →
        IsErasedState S.I sh' sv' →
        step S.P w t ≡ Some (put w t (set_state sh' c s) (going_on S.P left l.under ls)) →
        step S.P v t ≡ Some (put v t (set_state sv' c s) (going_on S.P left l.under ls)) → TurnKinds.Turn S fuel w v t
    ends_turn s left outcome sh' sv' r m named kl like stepped stepped' =
        let names : Fewer (shown S.I w.shared.states) (shown S.I (set_state sh' c s).states) =
        VisibleSteps.end_names S w.shared.states sh' c s m.states on.other in
        let low : VisibleSteps.Foot S (set_state sh' c s) fuel t ls =
        VisibleSteps.foot_visible S w.shared (set_state sh' c s) fuel fuel t ls
        (VisibleSteps.foot S w.shared fuel t l.under ls on.rest on.none) names in
        let stands : Invariant.StandsAt S (set_state sh' c s) fuel t (going_on S.P left l.under ls) =
        VisibleSteps.left_foot S (set_state sh' c s) fuel t left l.under ls low
        (KnowsFrames-mono _ _ names l.under under_known)
        (left_mono w.shared (set_state sh' c s) names left kl) in
        TurnKinds.Alike fuel _ _ stepped stepped'
        (record {
          inv = Invariant.invariant_put S fuel fuel w t (set_state sh' c s) _ (going_within w t [] (l ∷ ls) on.at) b.inv
              (VisibleSteps.end_changes S fuel w t c s outcome sh' r _ b.inv away on.other m named stands);
          erased = erased-both S.I w v t _ _ _ _ b.erased (set_state-erased S.I sh' sv' c s like on.other)
              (sym (VisibleSteps.cut_left S left l.under ls on.none));
        })
        (λ d a. elim (tested (d == c)) [
          | inl e ↦ (let clash : true ≡ false = sym a ∙ (ap S.I.holds (eqb-true d _ e) ∙ on.other) in cc)
          | inr e ↦ rw e (ap (λ (st : States). st d) m.states)
        ])
        away

    -- by a row that needs no class
    fails_turn : (row : Row) → LeavesNamed S.P row → IsPlain row
        → Fits S.P (shown S.I w.shared.states) (own_of (maker_of t ls)) row →
        step S.P w t ≡ put_thread w t (fails S.P c l.under ls (run_row t (Class c) w.shared row)) →
        step S.P v t ≡ put_thread v t (fails S.P c l.under ls (run_row t (Class c) v.shared row))
        → TurnKinds.Turn S fuel w v t
    fails_turn row leaves is_plain fit stepped stepped' = go (plain_moves t (Class c) row w.shared is_plain)
      where
        maker_other : (d : ℕ) → S.I.holds d ≡ true → Class c ≢ Class d
        maker_other d a e =
            let same : c ≡ d = cc in
            let clash : true ≡ false = sym a ∙ (ap S.I.holds (sym same) ∙ on.other) in
            cc

        both_ways : AgreeingRows.Agrees S w.shared.regions w.shared (run_row t (Class c) w.shared row)
            (run_row t (Class c) v.shared row)
        both_ways = AgreeingRows.agree S t (Class c) maker_other (own_of (maker_of t ls)) (own_other S t ls on.none)
            w.shared.regions
            row w.shared v.shared b.inv.sane b.erased.shared b.inv.sound away (λ d h. refl) fit

        go : ((outcome : Outcome) × (new : SharedState) × (run_row t (Class c) w.shared row ≡ Moved outcome new)) →
            TurnKinds.Turn S fuel w v t
        go (outcome, new, e) =
            let m : AgreeingRows.MovedAlike S w.shared.regions w.shared.states outcome new
            (run_row t (Class c) v.shared row) =
            subst (λ (r : Result). AgreeingRows.Agrees S w.shared.regions w.shared r (run_row t (Class c) v.shared row))
            e both_ways in
            ends_turn Erroneous (left_in outcome l.under) outcome new m.other (run_row t (Class c) v.shared row) m
            (SharedStates.named_after S row leaves t (Class c) maker_other w.shared new outcome e m.states b.inv.named)
            (left_known (shown S.I w.shared.states) outcome l.under m.outcome_known under_known) m.like
            (stepped ∙ ap (λ (r : Result). put_thread w t (fails S.P c l.under ls r)) e)
            (stepped' ∙ ap (λ (r : Result). put_thread v t (fails S.P c l.under ls r)) m.same)

    finish_turn : step S.P w t ≡ put_thread w t (Some (finishes w.shared c l.under ls)) →
        step S.P v t ≡ put_thread v t (Some (finishes v.shared c l.under ls)) → TurnKinds.Turn S fuel w v t
    finish_turn stepped stepped' =
        ends_turn Initialized (Stand l.under) (Halt Fault) w.shared v.shared (Moved (Halt Fault) v.shared)
        (record {
          other = v.shared;
          same = refl;
          like = b.erased.shared;
          sane = b.inv.sane;
          hidden = λ d h. refl;
          states = refl;
          outcome_known = tt;
        })
        b.inv.named under_known b.erased.shared stepped stepped'

    -- ---- the stack alone changes

    stack_turn : (gs : List Frame) (l' : Level) → l'.initialization.class ≡ c → l'.under ≡ l.under
        → l'.initialization.pending ≡ None →
        KnowsFrames (shown S.I w.shared.states) gs → step S.P w t ≡ Some (put w t w.shared (Going gs (l' ∷ ls))) →
        step S.P v t ≡ Some (put v t v.shared (Going gs (l' ∷ ls))) → TurnKinds.Turn S fuel w v t
    stack_turn gs l' same same_under none_pending k stepped stepped' =
        TurnKinds.Alike fuel _ _ stepped stepped'
        (record {
          inv = Invariant.invariant_put S fuel fuel w t _ _ (going_within w t [] (l ∷ ls) on.at) b.inv
              (InitializerSteps.stack_changes S fuel fuel w t (Going gs (l' ∷ ls)) b.inv (λ d u a e s. refl)
              (λ d a s. refl)
              (λ d o. on_same d (subst (OnThread d) on.at o))
              (Invariant.Plain (ap S.I.holds same ∙ on.other) k (rw none_pending tt) on.none (rw same_under on.rest)));
          erased = erased-both S.I w v t _ _ _ _ b.erased b.erased.shared (rw (ap S.I.holds same ∙ on.other) refl);
        })
        (λ d a. refl)
        away
      where
        on_same : (d : ℕ) → (d ≡ c) ⊎ On d ls → (d ≡ l'.initialization.class) ⊎ On d ls
        on_same d (inl e) = inl (e ∙ sym same)
        on_same d (inr o) = inr o

    -- ---- by what the initialization waits for

    here : step S.P w t ≡ put_thread w t
        (step_initialization S.P w.shared t l.initialization l.under ls l.initialization.pending)
    unfolding step_thread
    here = stepping S.P w t (Going [] (l ∷ ls)) on.at

    here' : step S.P v t ≡ put_thread v t
        (step_initialization S.P v.shared t l.initialization l.under ls l.initialization.pending)
    unfolding step_thread
    here' = stepping S.P v t (Going [] (l ∷ ls)) (TurnKinds.there S fuel w v t [] (l ∷ ls) b on.at all_none)

    by_start : (o : Option Frame) → S.P.initializer c ≡ o → l.initialization.pending ≡ None →
        step S.P w t ≡ put_thread w t (Some (initializes w.shared l.initialization l.under ls o)) →
        step S.P v t ≡ put_thread v t (Some (initializes v.shared l.initialization l.under ls o))
        → TurnKinds.Turn S fuel w v t
    by_start None e np stepped stepped' = finish_turn stepped stepped'
    by_start (Some g) e np stepped stepped' =
        stack_turn (g ∷ []) (record { initialization = record l.initialization { begun = true }; under = l.under }) refl
        refl np
        (S.lawful.initializer_names (shown S.I w.shared.states) c g e, tt) stepped stepped'

    by_parent : (d : ℕ) (ds : List ℕ) → l.initialization.pending ≡ None →
        ((u : Usability) → usable t (w.shared.states d) ≡ u →
        step S.P w t ≡ put_thread w t (passes S.P w.shared t l.initialization l.under ls d ds u)) →
        ((u : Usability) → usable t (v.shared.states d) ≡ u →
        step S.P v t ≡ put_thread v t (passes S.P v.shared t l.initialization l.under ls d ds u)) →
        TurnKinds.Turn S fuel w v t
    by_parent d ds np stepped stepped' =
        elim (AgreeingRows.reach S t w.shared v.shared b.erased.shared b.inv.sound away d) [
          | AgreeingRows.BothReady r r' x ↦
              stack_turn [] (record { initialization = record l.initialization { left = ds }; under = l.under }) refl
              refl
              np tt (stepped _ r) (stepped' _ r')
          | AgreeingRows.BothFresh f f' x ↦
              TurnKinds.begin_plain_turn S fuel w v t d [] (l ∷ ls) b on.at tower x (usable_fresh t _ f) all_none
              (stepped _ f) (stepped' _ f')
          | AgreeingRows.BothBusy x x' ↦ TurnKinds.Neither (stepped _ x) (inr (stepped' _ x'))
          | AgreeingRows.BothBroken x x' ↦
              fails_turn (S.P.orphaned c) (S.lawful.orphaned_named c) (S.lawful.plain_orphaned c)
              (S.lawful.orphaned (shown S.I w.shared.states) (own_of (maker_of t ls)) c) (stepped _ x) (stepped' _ x')
          | AgreeingRows.MustBegin f a ↦
              TurnKinds.begin_turn S fuel w v t d [] (l ∷ ls) b on.at tower a (usable_fresh t _ f)
              (none_higher S (S.wave d) (l ∷ ls) all_none)
              (stepped _ f)
          | AgreeingRows.MustWait x a ↦
              let k : (u : ℕ) × (w.shared.states d ≡ InProgress u) × ((t == u) ≡ false) =
              usable_busy t (w.shared.states d) x in
              TurnKinds.Neither (stepped _ x) (inl (d, k.0, a, k.1, k.2))
        ]

    by_left : (left : List ℕ) (begun : Bool) → l.initialization.pending ≡ None →
        step S.P w t ≡ put_thread w t (step_parents S.P w.shared t l.initialization l.under ls left begun) →
        step S.P v t ≡ put_thread v t (step_parents S.P v.shared t l.initialization l.under ls left begun)
        → TurnKinds.Turn S fuel w v t
    by_left (d ∷ ds) begun np stepped stepped' =
        by_parent d ds np
        (λ u e. stepped
        ∙ ap (λ (x : Usability). put_thread w t (passes S.P w.shared t l.initialization l.under ls d ds x)) e)
        (λ u e. stepped'
        ∙ ap (λ (x : Usability). put_thread v t (passes S.P v.shared t l.initialization l.under ls d ds x)) e)
    by_left [] false np stepped stepped' = by_start (S.P.initializer c) refl np stepped stepped'
    by_left [] true np stepped stepped' = finish_turn stepped stepped'

    by_pending : (o : Option Name) → l.initialization.pending ≡ o → KnowsName (shown S.I w.shared.states) o
        → TurnKinds.Turn S fuel w v t
    by_pending (Some x) e k =
        fails_turn (S.P.failing c x) (S.lawful.failing_named c x) (S.lawful.plain_failing c x)
        (S.lawful.failing (shown S.I w.shared.states) (own_of (maker_of t ls)) c x k)
        (here
        ∙ ap (λ (o : Option Name). put_thread w t
        (step_initialization S.P w.shared t l.initialization l.under ls o)) e)
        (here'
        ∙ ap (λ (o : Option Name). put_thread v t
        (step_initialization S.P v.shared t l.initialization l.under ls o)) e)
    by_pending None e k =
        by_left l.initialization.left l.initialization.begun e
        (here
        ∙ ap (λ (o : Option Name). put_thread w t
        (step_initialization S.P w.shared t l.initialization l.under ls o)) e)
        (here'
        ∙ ap (λ (o : Option Name). put_thread v t
        (step_initialization S.P v.shared t l.initialization l.under ls o)) e)

    pub initialization_turn : TurnKinds.Turn S fuel w v t
    initialization_turn = by_pending l.initialization.pending refl on.pending
