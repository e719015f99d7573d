-- A step of an accepted class's initialization: what it changes.
use Rattle.std.proofs.Common.{◌≡◌, ◌≢◌, ℕ, ◌<◌, true, false, ◌⊎◌, inl, inr, List, ◌∷◌, ◌==◌, refl, sym, ap, ◌∙◌, subst}
use Rattle.std.proofs.Common.{eqb-true, eq-eqb}
use Rattle.std.proofs.Common.{arith, ltb-true}
use Rattle.vm_state.specs.declared.classes.ClassState.TheVariants.{Uninitialized, InProgress, Initialized, Erroneous}
use Rattle.vm_state.specs.declared.frame.Frame.{Frame}
use Rattle.vm_state.specs.declared.initialization.Level.{Level}
use Rattle.vm_state.specs.SharedState.{Region, SharedState, set_state}
use Rattle.semantics.specs.Rows.{Outcome}
use Rattle.semantics.specs.Steps.{Thread, Going}
use Rattle.semantics.specs.Worlds.{World}
use Rattle.semantics.specs.Quiet.{QuietMove}
use Rattle.semantics.specs.Erasure.{is_hidden, IsErasedState}
use Rattle.semantics.specs.Lawful.{KeepsNamed}
use Rattle.vm_state.proofs.ListLemmas.{tested}
use Rattle.semantics.proofs.KnownNamesLemmas.{Fewer}
use Rattle.semantics.proofs.VisibilityLemmas.{States, shown, hidden_by, shown_from}
use Rattle.semantics.proofs.SettingLemmas.{Setting}
use Rattle.semantics.proofs.QuietRowsLemmas as QuietRows
use Rattle.semantics.proofs.StateChangesLemmas as StateChanges
use Rattle.semantics.proofs.StateChangesLemmas.{hidden_after}
use Rattle.semantics.proofs.StacksLemmas.{On, OnThread, Higher}
use Rattle.semantics.proofs.FuelLemmas.{shared_out}
use Rattle.semantics.proofs.ThreadsLemmas.{thread_at}
use Rattle.semantics.proofs.InvariantLemmas as Invariant
use Rattle.semantics.proofs.InvariantLemmas.{Fuel}
use Rattle.semantics.proofs.VisibleStepsLemmas as VisibleSteps

by_same : (t u : ℕ) → InProgress t ≡ InProgress u → u ≡ t
by_same t u e = cc

module _ (S : Setting) where
  -- ---- the fuel of the class in progress on top

  pub own_fuel : (fuel : Fuel) (st : States) (t c x : ℕ) → st c ≡ InProgress t → (d u : ℕ) → (u == t) ≡ false
      → st d ≡ InProgress u →
      shared_out fuel c x d ≡ fuel d
  own_fuel fuel st t c x by d u e s = elim (tested (d == c)) [
    | inl f ↦
        let same : u ≡ t = by_same t u (sym by ∙ (ap st (sym (eqb-true d c f)) ∙ s)) in
        (let clash : false ≡ true = sym e ∙ eq-eqb u t same in cc)
    | inr f ↦ rw f
  ]

  pub own_fuel_fresh : (fuel : Fuel) (st : States) (t c x : ℕ) → st c ≡ InProgress t → (d : ℕ) → st d ≡ Uninitialized
      → shared_out fuel c x d ≡ fuel d
  own_fuel_fresh fuel st t c x by d s = elim (tested (d == c)) [
    | inl f ↦ (let clash : InProgress t ≡ Uninitialized = sym by ∙ (ap st (sym (eqb-true d c f)) ∙ s) in cc)
    | inr f ↦ rw f
  ]

  apart : (st : States) (c d t : ℕ) → st c ≡ InProgress t → st d ≢ InProgress t → (d == c) ≡ false
  apart st c d t by h = elim (tested (d == c)) [
    | inl e ↦ absurd (h (ap st (eqb-true d c e) ∙ by))
    | inr e ↦ e
  ]

  not_by : (st : States) (d t u : ℕ) → st d ≡ InProgress u → (u == t) ≡ false → st d ≢ InProgress t
  not_by st d t u s e h = (let clash : false ≡ true = sym e ∙ eq-eqb u t (by_same t u (sym h ∙ s)) in cc)

  -- ---- nothing shared changes

  pub stack_changes : (fuel fuel' : Fuel) (w : World) (t : ℕ) (th : Thread) → Invariant.Invariant S fuel w →
      ((c u : ℕ) → S.I.holds c ≡ true → (u == t) ≡ false → w.shared.states c ≡ InProgress u → fuel' c ≡ fuel c) →
      ((c : ℕ) → S.I.holds c ≡ true → w.shared.states c ≡ Uninitialized → fuel' c ≡ fuel c) →
      ((c : ℕ) → OnThread c (thread_at w t) → OnThread c th) → Invariant.StandsAt S w.shared fuel' t th →
      Invariant.Changes S fuel fuel' w.shared w.shared t th
  stack_changes fuel fuel' w t th inv f1 f2 on stands = record {
    sane = inv.sane;
    named = inv.named;
    sound = inv.sound;
    stands = stands;
    names = λ x h. h;
    others = λ c u a e s. (s, refl, f1 c u a e s);
    busy = λ c u a s. elim (tested (u == t)) [
      | inl e ↦ inr (eqb-true u t e, on c (inv.busy c t a (s ∙ ap InProgress (eqb-true u t e))))
      | inr e ↦ inl (e, s)
    ];
    fresh = λ c a s. (s, refl, f2 c a s);
  }

  -- ---- one instruction of the initializer

  pub quiet_changes : (fuel : Fuel) (w : World) (t c x : ℕ) (fs gs : List Frame) (ls : List Level) (m : QuietMove)
      (outcome : Outcome)
      (sh' : SharedState) → Invariant.Invariant S fuel w → thread_at w t ≡ Going fs ls
      → w.shared.states c ≡ InProgress t →
      QuietRows.MovedQuietly S c w.shared.regions w.shared.pools w.shared.printed w.shared.states m outcome sh' →
      Invariant.Tower S sh' (shared_out fuel c x) t gs ls →
      Invariant.Changes S fuel (shared_out fuel c x) w.shared sh' t (Going gs ls)
  quiet_changes fuel w t c x fs gs ls m outcome sh' inv at by moved tower =
      let same : (d : ℕ) → sh'.states d ≡ w.shared.states d = λ d. ap (λ (st : States). st d) moved.states in
      record {
        sane = moved.sane;
        named = λ d a s.
            let old : w.shared.states d ≡ Initialized = sym (same d) ∙ s in
            let other : w.shared.states d ≢ InProgress t =
            λ h. (let clash : InProgress t ≡ Initialized = sym h ∙ old in cc) in
            subst (λ (r : Region). KeepsNamed S.P (S.I.region d).pool r.pool)
            (sym (moved.only.others d (apart w.shared.states c d t by other))) (inv.named d a old);
        sound = λ d a s. inv.sound d a (sym (same d) ∙ s);
        stands = tower;
        names = VisibleSteps.same_names S w.shared.states sh'.states moved.states;
        others = λ d u a e s. (
          same d ∙ s,
          moved.only.others d (apart w.shared.states c d t by (not_by w.shared.states d t u s e)),
          own_fuel fuel w.shared.states t c x by d u e s,
        );
        busy = λ d u a s.
            let old : w.shared.states d ≡ InProgress u = sym (same d) ∙ s in
            elim (tested (u == t)) [
              | inl e ↦ inr
                  (eqb-true u t e, subst (OnThread d) at (inv.busy d t a (old ∙ ap InProgress (eqb-true u t e))))
              | inr e ↦ inl (e, old)
            ];
        fresh = λ d a s.
            let old : w.shared.states d ≡ Uninitialized = sym (same d) ∙ s in
            let other : w.shared.states d ≢ InProgress t =
            λ h. (let clash : InProgress t ≡ Uninitialized = sym h ∙ old in cc) in (
              old,
              moved.only.others d (apart w.shared.states c d t by other),
              own_fuel_fresh fuel w.shared.states t c x by d old,
            );
      }

  -- the image does not make it
  pub quiet_erased : (sh sh' sv : SharedState) (t c : ℕ) → IsErasedState S.I sh sv → S.I.holds c ≡ true
      → sh.states c ≡ InProgress t →
      sh'.states ≡ sh.states → QuietRows.Only S c sh.regions sh.pools sh.printed sh' → IsErasedState S.I sh' sv
  quiet_erased sh sh' sv t c like a by same only = record {
    done = like.done;
    states = λ d n. like.states d n ∙ sym (ap (λ (st : States). st d) same);
    region = λ d h. like.region d (rw same at h);
    regions = λ d h.
        let h' : is_hidden S.I sh.states d ≡ false = rw same at h in
        let other : (d == c) ≡ false = elim (tested (d == c)) [
          | inl e ↦ (let clash : true ≡ false = sym (hidden_by S.I sh.states c t a by) ∙ (rw (eqb-true d c e) at h') in
              cc)
          | inr e ↦ e
        ] in
        like.regions d h' ∙ sym (only.others d other);
    pools = λ u. like.pools u ∙ sym (only.same_pools u);
    printed = like.printed ∙ sym only.same_printed;
  }

  -- ---- the end of its initialization

  pub finish_changes : (fuel : Fuel) (w : World) (t : ℕ) (fs : List Frame) (l : Level) (ls : List Level)
      → Invariant.Invariant S fuel w →
      thread_at w t ≡ Going fs (l ∷ ls) → S.I.holds l.initialization.class ≡ true
      → w.shared.states l.initialization.class ≡ InProgress t →
      w.shared.regions l.initialization.class ≡ S.I.region l.initialization.class
      → Higher S (S.wave l.initialization.class) ls →
      Invariant.Tower S w.shared fuel t l.under ls →
      Invariant.Changes S fuel (shared_out fuel l.initialization.class 0) w.shared
      (set_state w.shared l.initialization.class Initialized) t (Going l.under ls)
  finish_changes fuel w t fs l ls inv at a by settled higher tower =
      let c : ℕ = l.initialization.class in
      let names : Fewer (shown S.I w.shared.states) (shown S.I (set_state w.shared c Initialized).states) =
      shown_from S.I w.shared.states _ (hidden_after S.I w.shared c Initialized (λ k. rw a refl)) in
      let above : (d : ℕ) → On d ls → S.I.holds d ≡ true → (d == c) ≡ false = λ d on ad. elim (tested (d == c)) [
        | inl e ↦
            let h : S.wave c < S.wave d = ltb-true _ _ (higher d on ad) in
            let k : S.wave d ≡ S.wave c = ap S.wave (eqb-true d _ e) in
            absurd (omega arith)
        | inr e ↦ e
      ] in
      record {
        sane = StateChanges.set_state-sane S w.shared inv.sane c Initialized names (λ ac e. settled);
        named = λ d ad s. elim (tested (d == c)) [
          | inl e ↦
              subst (λ (k : ℕ). KeepsNamed S.P (S.I.region k).pool (w.shared.regions k).pool) (sym (eqb-true d c e))
              (subst (λ (r : Region). KeepsNamed S.P (S.I.region c).pool r.pool) (sym settled) (λ n vs is. is))
          | inr e ↦ inv.named d ad (rw e at s)
        ];
        sound = λ d ad s. elim (tested (d == c)) [
          | inl e ↦ (let clash : Initialized ≡ Erroneous = rw e at s in cc)
          | inr e ↦ inv.sound d ad (rw e at s)
        ];
        stands = Invariant.tower_keep S w.shared (set_state w.shared c Initialized) fuel (shared_out fuel c 0) t l.under
            ls tower (record {
              classes = λ d on ad s. (rw (above d on ad) s, refl, rw (above d on ad) refl);
              names = names;
            });
        names = names;
        others = λ d u ad e s.
            let q : (d == c) ≡ false = apart w.shared.states c d t by (not_by w.shared.states d t u s e) in
            (rw q s, refl, rw q refl);
        busy = λ d u ad s. elim (tested (d == c)) [
          | inl e ↦ (let clash : Initialized ≡ InProgress u = rw e at s in cc)
          | inr e ↦
              let old : w.shared.states d ≡ InProgress u = rw e at s in
              elim (tested (u == t)) [
                | inl f ↦
                    let same : u ≡ t = eqb-true u t f in
                    let on : (d ≡ c) ⊎ On d ls = subst (OnThread d) at (inv.busy d t ad (old ∙ ap InProgress same)) in
                    elim on [
                      | inl q ↦ (let clash : false ≡ true = sym e ∙ eq-eqb d _ q in cc)
                      | inr q ↦ inr (same, q)
                    ]
                | inr f ↦ inl (f, old)
              ]
        ];
        fresh = λ d ad s. elim (tested (d == c)) [
          | inl e ↦ (let clash : Initialized ≡ Uninitialized = rw e at s in cc)
          | inr e ↦ (rw e at s, refl, rw e refl)
        ];
      }

  pub finish_erased : (sh sv : SharedState) (c : ℕ) → IsErasedState S.I sh sv → S.I.holds c ≡ true
      → sh.regions c ≡ S.I.region c →
      is_hidden S.I sh.states c ≡ true → IsErasedState S.I (set_state sh c Initialized) sv
  finish_erased sh sv c like a settled h = record {
    done = like.done;
    states = λ d n. elim (tested (d == c)) [
      | inl e ↦ (let clash : false ≡ true = sym n ∙ (ap S.I.holds (eqb-true d c e) ∙ a) in cc)
      | inr e ↦ rw e (like.states d n)
    ];
    region = λ d k. elim (tested (d == c)) [
      | inl e ↦ (let clash : false ≡ true = rw (e, eqb-true d c e, a) at k in cc)
      | inr e ↦ like.region d (rw e at k)
    ];
    regions = λ d k. elim (tested (d == c)) [
      | inl e ↦ rw (eqb-true d c e) (like.region c h ∙ sym settled)
      | inr e ↦ like.regions d (rw e at k)
    ];
    pools = like.pools;
    printed = like.printed;
  }
