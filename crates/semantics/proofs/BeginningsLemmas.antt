-- The initialization of a class begins.
use Rattle.std.proofs.Common.{◌≡◌, ℕ, ◌+◌, ◌<◌, ◌≤◌, true, false, inl, inr, List, [], ◌∷◌, length, ◌==◌, refl, sym, ap}
use Rattle.std.proofs.Common.{◌∙◌, subst, Bool, cond}
use Rattle.std.proofs.Common.{eqb-true, eq-eqb, arith}
use Rattle.vm_state.specs.declared.value.Maker.TheVariants.{Class}
use Rattle.vm_state.specs.declared.classes.ClassState.TheVariants.{Uninitialized, InProgress, Initialized, Erroneous}
use Rattle.vm_state.specs.declared.frame.Frame.{Frame}
use Rattle.vm_state.specs.declared.initialization.Level.{Level}
use Rattle.vm_state.specs.Statics.{with_constants}
use Rattle.vm_state.specs.SharedState.{Region, SharedState, set_region}
use Rattle.vm_state.specs.Shares.{begun}
use Rattle.semantics.specs.Steps.{Going, initialization_of}
use Rattle.semantics.specs.Worlds.{World, blank_region}
use Rattle.semantics.specs.Settling.{constant_region}
use Rattle.semantics.specs.Erasure.{IsErasedState}
use Rattle.semantics.specs.Lawful.{KeepsNamed}
use Rattle.vm_state.proofs.ListLemmas.{tested}
use Rattle.semantics.proofs.KnownNamesLemmas.{Fewer}
use Rattle.semantics.proofs.VisibilityLemmas.{shown, known, hidden_other, hidden_not, shown_from}
use Rattle.semantics.proofs.ConstantsLemmas.{constants_known}
use Rattle.semantics.proofs.SettingLemmas.{Setting}
use Rattle.semantics.proofs.SharedStatesLemmas as SharedStates
use Rattle.semantics.proofs.StateChangesLemmas as StateChanges
use Rattle.semantics.proofs.StateChangesLemmas.{hidden_after}
use Rattle.semantics.proofs.StacksLemmas.{OnThread, NoneAccepted, Higher}
use Rattle.semantics.proofs.FuelLemmas.{total, shared_out, total_less}
use Rattle.semantics.proofs.ThreadsLemmas.{thread_at, put, going_within}
use Rattle.semantics.proofs.InvariantLemmas as Invariant
use Rattle.semantics.proofs.InvariantLemmas.{Fuel}

module _ (S : Setting) where
  abbrev pub begun_by : SharedState → ℕ → ℕ → SharedState
  begun_by sh t c = begun sh c t (S.P.statics c)

  -- thread t, with this stack, begins c
  abbrev pub begin : World → ℕ → ℕ → List Frame → List Level → World
  begin w t c fs ls =
      put w t (begun_by w.shared t c) (Going [] (record { initialization = initialization_of S.P c; under = fs } ∷ ls))

  with_its_constants : SharedState → ℕ → Region
  with_its_constants sh c = record (sh.regions c) { fields = with_constants (S.P.statics c) (sh.regions c).fields }

  begin_names : (sh : SharedState) (t c : ℕ) → sh.states c ≡ Uninitialized
      → Fewer (shown S.I sh.states) (shown S.I (begun_by sh t c).states)
  begin_names sh t c un =
      shown_from S.I sh.states _ (hidden_after S.I sh c (InProgress t) (λ k. elim (tested (S.I.holds c)) [
        | inl a ↦ (let clash : true ≡ false = rw (a, un) at k in cc)
        | inr n ↦ rw n
      ]))

  begin_sane : (sh : SharedState) (t c : ℕ) → SharedStates.IsSane S sh → sh.states c ≡ Uninitialized
      → SharedStates.IsSane S (begun_by sh t c)
  unfolding with_its_constants
  begin_sane sh t c sane un =
      let set : SharedStates.IsSane S (set_region sh c (with_its_constants sh c)) =
      SharedStates.set_region-sane S sh sane c (with_its_constants sh c)
      (λ f. constants_known (known S.I sh.states (Class c)) (S.P.statics c) (S.lawful.statics c) f _ (sane.statics c f))
      (sane.objects (Class c))
      (λ f a s fin. (let clash : Uninitialized ≡ Initialized = sym un ∙ s in cc))
      (λ k a s. (let clash : Uninitialized ≡ Initialized = sym un ∙ s in cc)) in
      StateChanges.set_state-sane S (set_region sh c (with_its_constants sh c)) set c (InProgress t)
      (begin_names sh t c un)
      (λ a e. (let clash : InProgress t ≡ Initialized = e in cc))

  -- a class in progress is another one than c
  apart : (sh : SharedState) (c d u : ℕ) → sh.states c ≡ Uninitialized → sh.states d ≡ InProgress u → (d == c) ≡ false
  apart sh c d u un s = elim (tested (d == c)) [
    | inl f ↦ (let clash : Uninitialized ≡ InProgress u = sym un ∙ (ap sh.states (sym (eqb-true d c f)) ∙ s) in cc)
    | inr f ↦ f
  ]

  -- all but the new stack
  begin_changes : (fuel : Fuel) (w : World) (t c x : ℕ) (fs : List Frame) (ls : List Level)
      → Invariant.Invariant S fuel w →
      thread_at w t ≡ Going fs ls → w.shared.states c ≡ Uninitialized →
      Invariant.Tower S (begun_by w.shared t c) (shared_out fuel c x) t []
      (record { initialization = initialization_of S.P c; under = fs } ∷ ls) →
      Invariant.Changes S fuel (shared_out fuel c x) w.shared (begun_by w.shared t c) t
      (Going [] (record { initialization = initialization_of S.P c; under = fs } ∷ ls))
  unfolding with_its_constants
  begin_changes fuel w t c x fs ls inv at un tower = record {
    sane = begin_sane w.shared t c inv.sane un;
    named = λ d a s. elim (tested (d == c)) [
      | inl e ↦ (let clash : InProgress t ≡ Initialized = rw e at s in cc)
      | inr e ↦
          subst (λ (b : Bool). KeepsNamed S.P (S.I.region d).pool
          (cond b (with_its_constants w.shared c) (w.shared.regions d)).pool) (sym e) (inv.named d a (rw e at s))
    ];
    sound = λ d a s. elim (tested (d == c)) [
      | inl e ↦ (let clash : InProgress t ≡ Erroneous = rw e at s in cc)
      | inr e ↦ inv.sound d a (rw e at s)
    ];
    stands = tower;
    names = begin_names w.shared t c un;
    others = λ d u a e s.
        let q : (d == c) ≡ false = apart w.shared c d u un s in
        (rw q s, rw q refl, rw q refl);
    busy = λ d u a s. elim (tested (d == c)) [
      | inl e ↦ (let same : InProgress t ≡ InProgress u = rw e at s in inr (cc, inl (eqb-true d c e)))
      | inr e ↦
          let old : w.shared.states d ≡ InProgress u = rw e at s in
          elim (tested (u == t)) [
            | inl f ↦
                let same : u ≡ t = eqb-true u t f in
                inr (same, inr (subst (OnThread d) at (inv.busy d t a (old ∙ ap InProgress same))))
            | inr f ↦ inl (f, old)
          ]
    ];
    fresh = λ d a s. elim (tested (d == c)) [
      | inl e ↦ (let clash : InProgress t ≡ Uninitialized = rw e at s in cc)
      | inr e ↦ (rw e at s, rw e refl, rw e refl)
    ];
  }

  -- the stack below a class that begins
  begin_under : (fuel : Fuel) (w : World) (t c x : ℕ) (fs : List Frame) (ls : List Level)
      → w.shared.states c ≡ Uninitialized →
      Invariant.Tower S w.shared fuel t fs ls → Invariant.Tower S (begun_by w.shared t c) (shared_out fuel c x) t fs ls
  begin_under fuel w t c x fs ls un tower =
      Invariant.tower_keep S w.shared (begun_by w.shared t c) fuel (shared_out fuel c x) t fs ls tower (record {
        classes = λ d on a s.
            let q : (d == c) ≡ false = apart w.shared c d t un s in
            (rw q s, rw q refl, rw q refl);
        names = begin_names w.shared t c un;
      })

  -- an accepted class begins, on whatever stack whose accepted classes are of higher waves: there is less fuel then
  pub begin_accepted : (fuel : Fuel) (w : World) (t c : ℕ) (fs : List Frame) (ls : List Level)
      → Invariant.Invariant S fuel w →
      thread_at w t ≡ Going fs ls → Invariant.Tower S w.shared fuel t fs ls → S.I.holds c ≡ true
      → w.shared.states c ≡ Uninitialized →
      Higher S (S.wave c) ls →
      (fuel' : Fuel) × Invariant.Invariant S fuel' (begin w t c fs ls) × (total fuel' S.bound < total fuel S.bound)
  begin_accepted fuel w t c fs ls inv at tower a un higher =
      let fresh : (w.shared.regions c ≡ blank_region S.P c) × Invariant.Promise S c (fuel c) = inv.fresh c a un in
      let x : ℕ = fresh.1.0 + 2 + length (S.P.parents c) in
      let e : (c == c) ≡ true = eq-eqb c c refl in
      let own : (begun_by w.shared t c).regions c ≡ constant_region S.P c = rw (e, fresh.0) refl in
      let amount : shared_out fuel c x c ≡ x = rw e refl in
      let going : Invariant.Progress S c false (S.P.parents c) [] (constant_region S.P c) x =
      (fresh.1.0, refl, S.parents c a, fresh.1.1, omega arith) in
      let going' : Invariant.Progress S c false (S.P.parents c) [] ((begun_by w.shared t c).regions c)
      (shared_out fuel c x c) =
      rw (own, amount) going in (
        shared_out fuel c x,
        Invariant.invariant_put S fuel (shared_out fuel c x) w t (begun_by w.shared t c) _ (going_within w t fs ls at)
            inv
            (begin_changes fuel w t c x fs ls inv at un
            (Invariant.Inside a (rw e refl) refl tt going' higher (begin_under fuel w t c x fs ls un tower))),
        total_less fuel c x S.bound (S.bounded c a) (let h : fresh.1.0 + 3 + length (S.P.parents c) ≤ fuel c =
            fresh.1.2 in omega arith),
      )

  -- the image does not make that step
  pub begin_erased : (sh sv : SharedState) (t c : ℕ) → IsErasedState S.I sh sv → S.I.holds c ≡ true
      → sh.states c ≡ Uninitialized →
      IsErasedState S.I (begun_by sh t c) sv
  begin_erased sh sv t c like a un = record {
    done = like.done;
    states = λ d n. elim (tested (d == c)) [
      | inl e ↦ (let clash : false ≡ true = sym n ∙ (rw (eqb-true d c e) a) in cc)
      | inr e ↦ rw e (like.states d n)
    ];
    region = λ d h. elim (tested (d == c)) [
      | inl e ↦ like.region d (rw (eqb-true d c e) (hidden_not S.I sh.states c a un))
      | inr e ↦ like.region d (rw e at h)
    ];
    regions = λ d h. elim (tested (d == c)) [
      | inl e ↦ (let clash : true ≡ false = rw (e, eqb-true d c e, a) at h in cc)
      | inr e ↦ rw e (like.regions d (rw e at h))
    ];
    pools = like.pools;
    printed = like.printed;
  }

  -- a class that is not accepted begins in both
  pub begin_plain : (fuel : Fuel) (w : World) (t c : ℕ) (fs : List Frame) (ls : List Level)
      → Invariant.Invariant S fuel w →
      thread_at w t ≡ Going fs ls → Invariant.Tower S w.shared fuel t fs ls → S.I.holds c ≡ false
      → w.shared.states c ≡ Uninitialized →
      NoneAccepted S.I ls → Invariant.Invariant S (shared_out fuel c 0) (begin w t c fs ls)
  begin_plain fuel w t c fs ls inv at tower n un none =
      Invariant.invariant_put S fuel (shared_out fuel c 0) w t (begun_by w.shared t c) _ (going_within w t fs ls at) inv
      (begin_changes fuel w t c 0 fs ls inv at un
      (Invariant.Plain n tt tt none (begin_under fuel w t c 0 fs ls un tower)))

  pub begin_plain_erased : (sh sv : SharedState) (t c : ℕ) → IsErasedState S.I sh sv → S.I.holds c ≡ false →
      IsErasedState S.I (begun_by sh t c) (begun_by sv t c)
  begin_plain_erased sh sv t c like n = StateChanges.set_state-erased S.I _ _ c (InProgress t)
      (SharedStates.set_region-erased S sh sv like c (hidden_other S.I sh.states c n) _ _
      (ap (λ (r : Region). record r { fields = with_constants (S.P.statics c) r.fields })
      (like.regions c (hidden_other S.I sh.states c n)))) n
