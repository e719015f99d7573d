-- A class's state changes.
use Rattle.std.proofs.Common.{◌≡◌, ℕ, true, false, not, ◌&&◌, inl, inr, ◌==◌, sym, ap, ◌∙◌, eqb-true}
use Rattle.vm_state.specs.declared.value.Maker.{Maker}
use Rattle.vm_state.specs.declared.value.Maker.TheVariants.{Class, Thread}
use Rattle.vm_state.specs.declared.classes.ClassState.{ClassState}
use Rattle.vm_state.specs.declared.classes.ClassState.TheVariants.{Initialized}
use Rattle.vm_state.specs.SharedState.{Region, SharedState, pool_of, set_state}
use Rattle.semantics.specs.Images.{Image}
use Rattle.semantics.specs.Erasure.{is_done, is_hidden, IsErasedState}
use Rattle.vm_state.proofs.ListLemmas.{tested}
use Rattle.semantics.proofs.KnownNamesLemmas.{Fewer, Knows-mono, KnowsSlots-mono}
use Rattle.semantics.proofs.PoolsLemmas.{Holds}
use Rattle.semantics.proofs.VisibilityLemmas.{shown, known, known-mono, hidden_other}
use Rattle.semantics.proofs.PoolsLemmas.{shape_at}
use Rattle.semantics.proofs.SettingLemmas.{Setting}
use Rattle.semantics.proofs.SharedStatesLemmas as SharedStates

module _ (S : Setting) where
  pub set_state-sane : (sh : SharedState) → SharedStates.IsSane S sh → (c : ℕ) (s : ClassState) →
      Fewer (shown S.I sh.states) (shown S.I (set_state sh c s).states) →
      (S.I.holds c ≡ true → s ≡ Initialized → sh.regions c ≡ S.I.region c) → SharedStates.IsSane S (set_state sh c s)
  set_state-sane sh sane c s names done = record {
    statics = λ d f. Knows-mono _ _ (known-mono S.I sh.states (set_state sh c s).states names (Class d)) _
        (sane.statics d f);
    objects = the_objects;
    finals = λ d f a is_now fin. elim (tested (d == c)) [
      | inl e ↦
          let same : d ≡ c = eqb-true d c e in
          let now : s ≡ Initialized = rw e at is_now in
          rw same (ap (λ (r : Region). r.fields f) (done (rw same at a) now))
      | inr e ↦ sane.finals d f a (rw e at is_now) fin
    ];
    classes = λ d k a is_now. elim (tested (d == c)) [
      | inl e ↦
          let same : d ≡ c = eqb-true d c e in
          let now : s ≡ Initialized = rw e at is_now in
          rw same (ap (λ (r : Region). shape_at r.pool k) (done (rw same at a) now))
      | inr e ↦ sane.classes d k a (rw e at is_now)
    ];
  }
    where
      the_objects : (m : Maker) → Holds (known S.I (set_state sh c s).states m) (pool_of (set_state sh c s) m)
      the_objects (Class d) k =
          KnowsSlots-mono _ _ (known-mono S.I sh.states (set_state sh c s).states names (Class d)) _
          (sane.objects (Class d) k)
      the_objects (Thread t) k =
          KnowsSlots-mono _ _ (known-mono S.I sh.states (set_state sh c s).states names (Thread t)) _
          (sane.objects (Thread t) k)

-- no class is hidden that was not, if this one is not
pub hidden_after : (I : Image) (sh : SharedState) (c : ℕ) (s : ClassState) →
    (is_hidden I sh.states c ≡ false → (I.holds c && not (is_done s)) ≡ false) →
    (d : ℕ) → is_hidden I sh.states d ≡ false → is_hidden I (set_state sh c s).states d ≡ false
hidden_after I sh c s h d v = elim (tested (d == c)) [
  | inl e ↦ rw (e, eqb-true d c e) (h (rw (eqb-true d c e) at v))
  | inr e ↦ rw e v
]

-- the state of a class that is not accepted changes in both worlds
pub set_state-erased : (I : Image) (sh sv : SharedState) (c : ℕ) (s : ClassState) → IsErasedState I sh sv
    → I.holds c ≡ false →
    IsErasedState I (set_state sh c s) (set_state sv c s)
set_state-erased I sh sv c s like n = record {
  done = λ d a. elim (tested (d == c)) [
    | inl e ↦ (let clash : false ≡ true = sym n ∙ (rw (← eqb-true d c e) a) in cc)
    | inr e ↦ rw e (like.done d a)
  ];
  states = λ d k. elim (tested (d == c)) [
    | inl e ↦ rw e
    | inr e ↦ rw e (like.states d k)
  ];
  region = λ d h. elim (tested (d == c)) [
    | inl e ↦ (let clash : false ≡ true = rw (e, eqb-true d c e, n) at h in cc)
    | inr e ↦ like.region d (rw e at h)
  ];
  regions = λ d h. elim (tested (d == c)) [
    | inl e ↦ like.regions d (rw (eqb-true d c e) (hidden_other I sh.states c n))
    | inr e ↦ like.regions d (rw e at h)
  ];
  pools = like.pools;
  printed = like.printed;
}
