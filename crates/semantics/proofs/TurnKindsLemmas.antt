-- A turn of a thread in a lazy world and in its erasure: both step alike, or the lazy world alone steps, with less fuel
-- left, or it waits.
use Rattle.std.proofs.Common.{◌≡◌, ℕ, ◌<◌, true, false, ◌⊎◌, inl, inr, List, Some, None, ◌==◌, refl, sym, ap, ◌∙◌}
use Rattle.std.proofs.Common.{eqb-true, eq-eqb}
use Rattle.vm_state.specs.declared.classes.ClassState.TheVariants.{Uninitialized, InProgress}
use Rattle.vm_state.specs.declared.frame.Frame.{Frame}
use Rattle.vm_state.specs.declared.initialization.Level.{Level}
use Rattle.vm_state.specs.SharedState.{SharedState}
use Rattle.semantics.specs.Programs.{Program}
use Rattle.semantics.specs.Steps.{Thread, Going, step_thread}
use Rattle.semantics.specs.Worlds.{World, put_thread, step}
use Rattle.semantics.specs.Erasure.{cut_thread, IsErased}
use Rattle.vm_state.proofs.ListLemmas.{tested}
use Rattle.semantics.proofs.SettingLemmas.{Setting}
use Rattle.semantics.proofs.AgreeingRowsLemmas as AgreeingRows
use Rattle.semantics.proofs.StacksLemmas.{NoneAccepted, Higher, cut_none}
use Rattle.semantics.proofs.FuelLemmas.{total, shared_out}
use Rattle.semantics.proofs.ThreadsLemmas.{thread_at, step_at, thread_at-erased, erased-stays, erased-both}
use Rattle.semantics.proofs.InvariantLemmas as Invariant
use Rattle.semantics.proofs.InvariantLemmas.{Fuel}
use Rattle.semantics.proofs.BeginningsLemmas as Beginnings
use Rattle.semantics.proofs.VisibleStepsLemmas as VisibleSteps

-- the step of a thread that stands so
pub stepping : (P : Program) (w : World) (t : ℕ) (th : Thread) → thread_at w t ≡ th →
    step P w t ≡ put_thread w t (step_thread P t w.shared th)
stepping P w t th at = step_at P w t ∙ ap (λ (x : Thread). put_thread w t (step_thread P t w.shared x)) at

module _ (S : Setting) where
  -- a lazy world, of which the invariant holds, and its erasure
  pub record Beside (fuel : Fuel) (w v : World) : Type 0 where
    pub inv : Invariant.Invariant S fuel w
    pub erased : IsErased S.I w v

  -- some other thread has begun an accepted class and not ended it
  abbrev pub OtherHalf : ℕ → SharedState → Type 0
  OtherHalf t sh = (d : ℕ) × (u : ℕ) × (S.I.holds d ≡ true) × (sh.states d ≡ InProgress u) × ((t == u) ≡ false)

  pub data Turn (fuel : Fuel) (w v : World) (t : ℕ) : Type 0 where
    -- both make the step, and no accepted class is in progress by the thread
    Alike : (fuel' : Fuel) (w' v' : World) → step S.P w t ≡ Some w' → step S.P v t ≡ Some v' → Beside fuel' w' v' →
        ((d : ℕ) → S.I.holds d ≡ true → w'.shared.states d ≡ w.shared.states d) → AgreeingRows.NoneBy S t w.shared
        → Turn fuel w v t
    -- the lazy world alone makes one, and no accepted class begins but by the thread
    Slower : (fuel' : Fuel) (w' : World) → step S.P w t ≡ Some w' → Beside fuel' w' v
        → total fuel' S.bound < total fuel S.bound →
        ((d u : ℕ) → S.I.holds d ≡ true → w'.shared.states d ≡ InProgress u → (w.shared.states d ≡ InProgress u)
        ⊎ (u ≡ t)) → Turn fuel w v t
    -- the lazy world has none: it waits for an initializer that the image does not run, or the image has none either
    Neither : step S.P w t ≡ None → OtherHalf t w.shared ⊎ (step S.P v t ≡ None) → Turn fuel w v t

  -- ---- the thread in the image's world

  pub there : (fuel : Fuel) (w v : World) (t : ℕ) (fs : List Frame) (ls : List Level) → Beside fuel w v
      → thread_at w t ≡ Going fs ls →
      NoneAccepted S.I ls → thread_at v t ≡ Going fs ls
  there fuel w v t fs ls b at none = thread_at-erased S.I w v b.erased t
      ∙ (ap (cut_thread S.I) at ∙ cut_none S.I fs ls none)

  -- ---- a class begins

  stays_by : (sh sh' : SharedState) (t c : ℕ) → ((d : ℕ) → (d == c) ≡ false → sh'.states d ≡ sh.states d)
      → sh'.states c ≡ InProgress t →
      (d u : ℕ) → S.I.holds d ≡ true → sh'.states d ≡ InProgress u → (sh.states d ≡ InProgress u) ⊎ (u ≡ t)
  stays_by sh sh' t c other by d u a s = elim (tested (d == c)) [
    | inl e ↦ (let same : InProgress t ≡ InProgress u = sym by ∙ (ap sh'.states (sym (eqb-true d c e)) ∙ s) in inr cc)
    | inr e ↦ inl (sym (other d e) ∙ s)
  ]

  -- of an accepted class, the lazy world alone
  pub begin_turn : (fuel : Fuel) (w v : World) (t c : ℕ) (fs : List Frame) (ls : List Level) → Beside fuel w v →
      thread_at w t ≡ Going fs ls →
      Invariant.Tower S w.shared fuel t fs ls → S.I.holds c ≡ true → w.shared.states c ≡ Uninitialized
      → Higher S (S.wave c) ls →
      step S.P w t ≡ Some (Beginnings.begin S w t c fs ls) → Turn fuel w v t
  begin_turn fuel w v t c fs ls b at tower a un higher stepped =
      let next : (fuel' : Fuel) × Invariant.Invariant S fuel' (Beginnings.begin S w t c fs ls) ×
      (total fuel' S.bound < total fuel S.bound) =
      Beginnings.begin_accepted S fuel w t c fs ls b.inv at tower a un higher in
      Slower next.0 (Beginnings.begin S w t c fs ls) stepped
      (record {
        inv = next.1;
        erased =
            erased-stays S.I w v t _ _ b.erased (Beginnings.begin_erased S w.shared v.shared t c b.erased.shared a un)
            (rw (a, at) refl);
      })
      next.2
      (stays_by w.shared (Beginnings.begun_by S w.shared t c) t c (λ d e. rw e refl) (rw (eq-eqb c c refl) refl))

  -- of another class, both
  pub begin_plain_turn : (fuel : Fuel) (w v : World) (t c : ℕ) (fs : List Frame) (ls : List Level) → Beside fuel w v →
      thread_at w t ≡ Going fs ls → Invariant.Tower S w.shared fuel t fs ls → S.I.holds c ≡ false
      → w.shared.states c ≡ Uninitialized →
      NoneAccepted S.I ls → step S.P w t ≡ Some (Beginnings.begin S w t c fs ls) →
      step S.P v t ≡ Some (Beginnings.begin S v t c fs ls) → Turn fuel w v t
  begin_plain_turn fuel w v t c fs ls b at tower n un none stepped stepped' =
      Alike (shared_out fuel c 0) (Beginnings.begin S w t c fs ls) (Beginnings.begin S v t c fs ls) stepped stepped'
      (record {
        inv = Beginnings.begin_plain S fuel w t c fs ls b.inv at tower n un none;
        erased =
            erased-both S.I w v t _ _ _ _ b.erased
            (Beginnings.begin_plain_erased S w.shared v.shared t c b.erased.shared n)
            (rw n refl);
      })
      (λ d a. elim (tested (d == c)) [
        | inl e ↦ (let clash : true ≡ false = sym a ∙ (ap S.I.holds (eqb-true d c e) ∙ n) in cc)
        | inr e ↦ rw e refl
      ])
      (VisibleSteps.none_by S fuel w t fs ls b.inv at none)
