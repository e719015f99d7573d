-- A step on a stack without accepted classes: what it leaves, and what it changes.
use Rattle.std.proofs.Common.{◌≡◌, ℕ, true, false, inl, inr, List, [], ◌∷◌, ◌==◌, refl, sym, ap, ◌∙◌, subst, eqb-true}
use Rattle.vm_state.specs.declared.classes.ClassState.{ClassState}
use Rattle.vm_state.specs.declared.classes.ClassState.TheVariants.{Uninitialized, InProgress}
use Rattle.vm_state.specs.declared.frame.Frame.{Frame}
use Rattle.vm_state.specs.declared.initialization.Level.{Level}
use Rattle.vm_state.specs.SharedState.{SharedState, set_state}
use Rattle.semantics.specs.Rows.{Outcome, Result}
use Rattle.semantics.specs.Moves.{Left, Stand, Throw, Stop, unwound}
use Rattle.semantics.specs.Steps.{Thread, Going, standing, settled, going_on}
use Rattle.semantics.specs.Worlds.{World}
use Rattle.semantics.specs.Erasure.{cut_thread}
use Rattle.semantics.specs.Lawful.{KnowsName}
use Rattle.semantics.specs.helpers.Lawful.{KnowsFrames}
use Rattle.vm_state.proofs.ListLemmas.{tested}
use Rattle.semantics.proofs.KnownNamesLemmas.{Fewer, KnowsName-mono}
use Rattle.semantics.proofs.VisibilityLemmas.{States, shown, hidden_by, hidden_not, shown_from}
use Rattle.semantics.proofs.FrameMovesLemmas.{KnowsLeft, unwound_known}
use Rattle.semantics.proofs.SettingLemmas.{Setting}
use Rattle.semantics.proofs.SharedStatesLemmas as SharedStates
use Rattle.semantics.proofs.AgreeingRowsLemmas as AgreeingRows
use Rattle.semantics.proofs.StateChangesLemmas as StateChanges
use Rattle.semantics.proofs.StateChangesLemmas.{hidden_after}
use Rattle.semantics.proofs.StacksLemmas.{On, OnThread, NoneAccepted, cut_none}
use Rattle.semantics.proofs.ThreadsLemmas.{thread_at}
use Rattle.semantics.proofs.InvariantLemmas as Invariant
use Rattle.semantics.proofs.InvariantLemmas.{Fuel}

module _ (S : Setting) where
  -- ---- what stands below the topmost segment

  abbrev pub Foot : SharedState → Fuel → ℕ → List Level → Type 0
  Foot sh fuel t [] = Unit {0}
  Foot sh fuel t (l ∷ ls) =
      (S.I.holds l.initialization.class ≡ false) × KnowsName (shown S.I sh.states) l.initialization.pending
      × NoneAccepted S.I ls
      × Invariant.Tower S sh fuel t l.under ls

  pub foot : (sh : SharedState) (fuel : Fuel) (t : ℕ) (fs : List Frame) (ls : List Level)
      → Invariant.Tower S sh fuel t fs ls →
      NoneAccepted S.I ls → Foot sh fuel t ls
  foot sh fuel t fs ls (Invariant.Base k) none = tt
  foot sh fuel t fs ls (Invariant.Plain n k p none' rest) none = (n, p, none', rest)
  foot sh fuel t fs ls (Invariant.Inside {l = l} a by p k going higher rest) none =
      (let clash : true ≡ false = sym a ∙ none l.initialization.class (inl refl) in cc)

  -- such a stack's part of the invariant goes on in whatever shows as many names
  pub tower_visible : (sh sh' : SharedState) (fuel fuel' : Fuel) (t : ℕ) (fs : List Frame) (ls : List Level) →
      Invariant.Tower S sh fuel t fs ls → NoneAccepted S.I ls → Fewer (shown S.I sh.states) (shown S.I sh'.states) →
      Invariant.Tower S sh' fuel' t fs ls
  tower_visible sh sh' fuel fuel' t fs ls tower none names =
      Invariant.tower_keep S sh sh' fuel fuel' t fs ls tower (record {
        classes = λ c on a by. (let clash : true ≡ false = sym a ∙ none c on in cc);
        names = names;
      })

  pub foot_visible : (sh sh' : SharedState) (fuel fuel' : Fuel) (t : ℕ) (ls : List Level) → Foot sh fuel t ls →
      Fewer (shown S.I sh.states) (shown S.I sh'.states) → Foot sh' fuel' t ls
  foot_visible sh sh' fuel fuel' t [] h names = tt
  foot_visible sh sh' fuel fuel' t (l ∷ ls) h names = (
    h.0,
    KnowsName-mono _ _ names l.initialization.pending h.1,
    h.2,
    tower_visible sh sh' fuel fuel' t l.under ls h.3 h.2 names,
  )

  -- ---- the stack after an outcome

  standing_foot : (sh : SharedState) (fuel : Fuel) (t : ℕ) (fs : List Frame) (ls : List Level) → Foot sh fuel t ls →
      KnowsFrames (shown S.I sh.states) fs → Invariant.StandsAt S sh fuel t (standing fs ls)
  standing_foot sh fuel t [] [] h k = tt
  standing_foot sh fuel t (f ∷ fs) [] h k = Invariant.Base k
  standing_foot sh fuel t [] (l ∷ ls) h k = Invariant.Plain h.0 k h.1 h.2 h.3
  standing_foot sh fuel t (f ∷ fs) (l ∷ ls) h k = Invariant.Plain h.0 k h.1 h.2 h.3

  settled_foot : (sh : SharedState) (fuel : Fuel) (t : ℕ) (left : Left) (ls : List Level) → Foot sh fuel t ls →
      KnowsLeft (shown S.I sh.states) left → Invariant.StandsAt S sh fuel t (settled left ls)
  settled_foot sh fuel t (Stand fs) ls h k = standing_foot sh fuel t fs ls h k
  settled_foot sh fuel t (Throw x class) [] h k = tt
  settled_foot sh fuel t (Throw x class) (l ∷ ls) h k = Invariant.Plain h.0 tt k h.2 h.3
  settled_foot sh fuel t (Stop kind) ls h k = tt

  pub left_foot : (sh : SharedState) (fuel : Fuel) (t : ℕ) (left : Left) (fs : List Frame) (ls : List Level)
      → Foot sh fuel t ls →
      KnowsFrames (shown S.I sh.states) fs → KnowsLeft (shown S.I sh.states) left →
      Invariant.StandsAt S sh fuel t (going_on S.P left fs ls)
  left_foot sh fuel t (Stand new) fs ls h kf k = standing_foot sh fuel t new ls h k
  left_foot sh fuel t (Throw x class) fs ls h kf k =
      settled_foot sh fuel t (unwound S.P x class fs) ls h (unwound_known (shown S.I sh.states) S.P x class fs k kf)
  left_foot sh fuel t (Stop kind) fs ls h kf k = tt

  cut_standing : (fs : List Frame) (ls : List Level) → NoneAccepted S.I ls
      → cut_thread S.I (standing fs ls) ≡ standing fs ls
  cut_standing [] [] none = refl
  cut_standing (f ∷ fs) [] none = refl
  cut_standing [] (l ∷ ls) none = cut_none S.I [] (l ∷ ls) none
  cut_standing (f ∷ fs) (l ∷ ls) none = cut_none S.I (f ∷ fs) (l ∷ ls) none

  cut_settled : (left : Left) (ls : List Level) → NoneAccepted S.I ls
      → cut_thread S.I (settled left ls) ≡ settled left ls
  cut_settled (Stand fs) ls none = cut_standing fs ls none
  cut_settled (Throw x class) [] none = refl
  cut_settled (Throw x class) (l ∷ ls) none = cut_none S.I [] _ (λ c on. none c on)
  cut_settled (Stop kind) ls none = refl

  -- nothing of it is erased
  pub cut_left : (left : Left) (fs : List Frame) (ls : List Level) → NoneAccepted S.I ls →
      cut_thread S.I (going_on S.P left fs ls) ≡ going_on S.P left fs ls
  cut_left (Stand new) fs ls none = cut_standing new ls none
  cut_left (Throw x class) fs ls none = cut_settled (unwound S.P x class fs) ls none
  cut_left (Stop kind) fs ls none = refl

  -- ---- what a row changes

  pub none_by : (fuel : Fuel) (w : World) (t : ℕ) (fs : List Frame) (ls : List Level) → Invariant.Invariant S fuel w →
      thread_at w t ≡ Going fs ls → NoneAccepted S.I ls → AgreeingRows.NoneBy S t w.shared
  none_by fuel w t fs ls inv at none c a by =
      let on : On c ls = subst (OnThread c) at (inv.busy c t a by) in
      let clash : true ≡ false = sym a ∙ none c on in
      cc

  pub same_names : (st st' : States) → st' ≡ st → Fewer (shown S.I st) (shown S.I st')
  same_names st st' e x h = rw e h

  pub row_changes : (fuel : Fuel) (w : World) (t : ℕ) (outcome : Outcome) (sh' : SharedState) (r : Result) (th : Thread)
      →
      Invariant.Invariant S fuel w → AgreeingRows.NoneBy S t w.shared →
      AgreeingRows.MovedAlike S w.shared.regions w.shared.states outcome sh' r
      → SharedStates.HasNamed S sh'.states sh'.regions → Invariant.StandsAt S sh' fuel t th →
      Invariant.Changes S fuel fuel w.shared sh' t th
  row_changes fuel w t outcome sh' r th inv away m named stands =
      let same : (d : ℕ) → sh'.states d ≡ w.shared.states d = λ d. ap (λ (st : States). st d) m.states in
      record {
        sane = m.sane;
        named = named;
        sound = λ c a s. inv.sound c a (sym (same c) ∙ s);
        stands = stands;
        names = same_names w.shared.states sh'.states m.states;
        others = λ c u a e s.
            let now : sh'.states c ≡ InProgress u = same c ∙ s in
            (now, m.hidden c (hidden_by S.I sh'.states c u a now), refl);
        busy = λ c u a s.
            let old : w.shared.states c ≡ InProgress u = sym (same c) ∙ s in
            elim (tested (u == t)) [
              | inl e ↦ absurd (away c a (old ∙ ap InProgress (eqb-true u t e)))
              | inr e ↦ inl (e, old)
            ];
        fresh = λ c a s. (sym (same c) ∙ s, m.hidden c (hidden_not S.I sh'.states c a s), refl);
      }

  -- ---- the same, and then the end of a class that is not accepted

  pub end_names : (st : States) (sh' : SharedState) (c : ℕ) (s : ClassState) → sh'.states ≡ st → S.I.holds c ≡ false →
      Fewer (shown S.I st) (shown S.I (set_state sh' c s).states)
  end_names st sh' c s e n x h = shown_from S.I sh'.states _ (hidden_after S.I sh' c s (λ k. rw n)) x
      (same_names st sh'.states e x h)

  pub end_changes : (fuel : Fuel) (w : World) (t c : ℕ) (s : ClassState) (outcome : Outcome) (sh' : SharedState)
      (r : Result)
      (th : Thread) →
      Invariant.Invariant S fuel w → AgreeingRows.NoneBy S t w.shared → S.I.holds c ≡ false →
      AgreeingRows.MovedAlike S w.shared.regions w.shared.states outcome sh' r
      → SharedStates.HasNamed S sh'.states sh'.regions → Invariant.StandsAt S (set_state sh' c s) fuel t th →
      Invariant.Changes S fuel fuel w.shared (set_state sh' c s) t th
  end_changes fuel w t c s outcome sh' r th inv away n m named stands =
      let apart : (d : ℕ) → S.I.holds d ≡ true → (d == c) ≡ false = λ d a. elim (tested (d == c)) [
        | inl e ↦ (let clash : true ≡ false = sym a ∙ (ap S.I.holds (eqb-true d c e) ∙ n) in cc)
        | inr e ↦ e
      ] in
      let same : (d : ℕ) → sh'.states d ≡ w.shared.states d = λ d. ap (λ (st : States). st d) m.states in
      record {
        sane =
            StateChanges.set_state-sane S sh' m.sane c s
            (shown_from S.I sh'.states _ (hidden_after S.I sh' c s (λ k. rw n)))
            (λ a e. (let clash : true ≡ false = sym a ∙ n in cc));
        named = λ d a done. named d a (rw (apart d a) at done);
        sound = λ d a k. inv.sound d a (sym (same d) ∙ (rw (apart d a) at k));
        stands = stands;
        names = end_names w.shared.states sh' c s m.states n;
        others = λ d u a e k.
            let now : sh'.states d ≡ InProgress u = same d ∙ k in
            (rw (apart d a) now, m.hidden d (hidden_by S.I sh'.states d u a now), refl);
        busy = λ d u a k.
            let old : w.shared.states d ≡ InProgress u = sym (same d) ∙ (rw (apart d a) at k) in
            elim (tested (u == t)) [
              | inl e ↦ absurd (away d a (old ∙ ap InProgress (eqb-true u t e)))
              | inr e ↦ inl (e, old)
            ];
        fresh = λ d a k.
            let now : sh'.states d ≡ Uninitialized = rw (apart d a) at k in
            (sym (same d) ∙ now, m.hidden d (hidden_not S.I sh'.states d a now), refl);
      }
