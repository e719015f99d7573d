-- What holds of every lazy world that a run leads to, and what a step of one thread has to show for it.
use Rattle.std.proofs.Common.{◌≡◌, ℕ, ◌+◌, ◌<◌, ◌≤◌, Bool, true, false, ◌⊎◌, inl, inr, List, [], ◌∷◌, length, None}
use Rattle.std.proofs.Common.{◌==◌, refl, sym, ◌∙◌}
use Rattle.std.proofs.Common.{eqb-true, eq-eqb}
use Rattle.std.specs.List.{AllByRecursion}
use Rattle.vm_state.specs.declared.value.Maker.TheVariants.{Class}
use Rattle.vm_state.specs.declared.classes.ClassState.TheVariants.{Uninitialized, InProgress}
use Rattle.vm_state.specs.declared.frame.Frame.{Frame}
use Rattle.vm_state.specs.declared.initialization.Level.{Level}
use Rattle.vm_state.specs.SharedState.{Region, SharedState}
use Rattle.semantics.specs.Steps.{Thread, Going, Ended, standing}
use Rattle.semantics.specs.Worlds.{World, blank_region}
use Rattle.semantics.specs.Settling.{constant_region}
use Rattle.semantics.specs.Alone.{RunsAlone, body}
use Rattle.semantics.specs.Lawful.{KnowsName}
use Rattle.semantics.specs.helpers.Lawful.{KnowsFrames}
use Rattle.vm_state.proofs.ListLemmas.{tested}
use Rattle.semantics.proofs.KnownNamesLemmas.{Fewer, KnowsName-mono, KnowsFrames-mono}
use Rattle.semantics.proofs.VisibilityLemmas.{shown, known, known-mono}
use Rattle.semantics.proofs.SettingLemmas.{Setting, is_below, below}
use Rattle.semantics.proofs.SharedStatesLemmas as SharedStates
use Rattle.semantics.proofs.AgreeingRowsLemmas as AgreeingRows
use Rattle.semantics.proofs.StacksLemmas.{On, OnThread, NoneAccepted, Higher}
use Rattle.semantics.proofs.ThreadsLemmas.{thread_at, put, thread_at-put}

-- For each accepted class, a bound on the steps that its initialization may still take.
abbrev pub Fuel : Type 0
Fuel = ℕ → ℕ

module _ (S : Setting) where
  -- how far c's initialization is, and that what is left of it leads to its region, within the fuel
  abbrev pub Progress : ℕ → Bool → List ℕ → List Frame → Region → ℕ → Type 0
  Progress c true left fs own fuel =
      (n : ℕ) × (left ≡ []) × RunsAlone S.P (below S.I S.wave c) c fs own n (S.I.region c) × (n + 1 ≤ fuel)
  Progress c false left fs own fuel =
      (n : ℕ) × (fs ≡ []) × AllByRecursion (λ p. is_below S.I S.wave c p ≡ true) left
      × RunsAlone S.P (below S.I S.wave c) c (body (S.P.initializer c)) own n (S.I.region c)
      × (n + 2 + length left ≤ fuel)

  -- an accepted class that has not begun will settle, within the fuel
  abbrev pub Promise : ℕ → ℕ → Type 0
  Promise c fuel =
      (n : ℕ) × RunsAlone S.P (below S.I S.wave c) c (body (S.P.initializer c)) (constant_region S.P c) n (S.I.region c)
      × (n + 3 + length (S.P.parents c) ≤ fuel)

  -- the stack of thread t, from the top down
  pub data Tower (sh : SharedState) (fuel : Fuel) (t : ℕ) : List Frame → List Level → Type 0 where
    -- frames, of which there is at least one, and no initialization
    Base : {f : Frame} {fs : List Frame} → KnowsFrames (shown S.I sh.states) (f ∷ fs) → Tower sh fuel t (f ∷ fs) []
    -- frames on the initialization of a class that is not accepted; then none below it is
    Plain : {fs : List Frame} {l : Level} {ls : List Level} → S.I.holds l.initialization.class ≡ false
        → KnowsFrames (shown S.I sh.states) fs →
        KnowsName (shown S.I sh.states) l.initialization.pending → NoneAccepted S.I ls → Tower sh fuel t l.under ls
        → Tower sh fuel t fs (l ∷ ls)
    -- frames on the initialization of an accepted class, which is on its way to its region
    Inside : {fs : List Frame} {l : Level} {ls : List Level} → S.I.holds l.initialization.class ≡ true
        → sh.states l.initialization.class ≡ InProgress t →
        l.initialization.pending ≡ None → KnowsFrames (known S.I sh.states (Class l.initialization.class)) fs →
        Progress l.initialization.class l.initialization.begun l.initialization.left fs
        (sh.regions l.initialization.class) (fuel l.initialization.class) →
        Higher S (S.wave l.initialization.class) ls → Tower sh fuel t l.under ls → Tower sh fuel t fs (l ∷ ls)

  abbrev pub StandsAt : SharedState → Fuel → ℕ → Thread → Type 0
  StandsAt sh fuel t (Going fs ls) = Tower sh fuel t fs ls
  StandsAt sh fuel t (Ended end) = Unit {0}

  pub record Invariant (fuel : Fuel) (w : World) : Type 0 where
    pub sane : SharedStates.IsSane S w.shared
    pub named : SharedStates.HasNamed S w.shared.states w.shared.regions
    pub sound : AgreeingRows.NoneFailed S w.shared
    pub stands : (t : ℕ) → StandsAt w.shared fuel t (thread_at w t)
    -- an accepted class in progress has its initialization on its thread's stack
    pub busy : (c t : ℕ) → S.I.holds c ≡ true → w.shared.states c ≡ InProgress t → OnThread c (thread_at w t)
    -- an accepted class that is not begun is blank
    pub fresh : (c : ℕ) → S.I.holds c ≡ true → w.shared.states c ≡ Uninitialized
        → (w.shared.regions c ≡ blank_region S.P c) × Promise c (fuel c)

  -- ---- a stack's part of it

  -- what a stack's part needs of a change of what is shared
  pub record Keep (sh sh' : SharedState) (fuel fuel' : Fuel) (t : ℕ) (ls : List Level) : Type 0 where
    pub classes : (c : ℕ) → On c ls → S.I.holds c ≡ true → sh.states c ≡ InProgress t →
        (sh'.states c ≡ InProgress t) × (sh'.regions c ≡ sh.regions c) × (fuel' c ≡ fuel c)
    pub names : Fewer (shown S.I sh.states) (shown S.I sh'.states)

  keep_under : (sh sh' : SharedState) (fuel fuel' : Fuel) (t : ℕ) (l : Level) (ls : List Level)
      → Keep sh sh' fuel fuel' t (l ∷ ls) →
      Keep sh sh' fuel fuel' t ls
  keep_under sh sh' fuel fuel' t l ls keep =
      record { classes = λ c on a by. keep.classes c (inr on) a by; names = keep.names }

  pub tower_keep : (sh sh' : SharedState) (fuel fuel' : Fuel) (t : ℕ) (fs : List Frame) (ls : List Level)
      → Tower sh fuel t fs ls →
      Keep sh sh' fuel fuel' t ls → Tower sh' fuel' t fs ls
  tower_keep sh sh' fuel fuel' t fs ls (Base k) keep = Base (KnowsFrames-mono _ _ keep.names fs k)
  tower_keep sh sh' fuel fuel' t fs ls (Plain {l = l} {ls = ms} n k p none rest) keep =
      Plain n (KnowsFrames-mono _ _ keep.names fs k) (KnowsName-mono _ _ keep.names l.initialization.pending p) none
      (tower_keep sh sh' fuel fuel' t l.under ms rest (keep_under sh sh' fuel fuel' t l ms keep))
  tower_keep sh sh' fuel fuel' t fs ls (Inside {l = l} {ls = ms} a by p k going higher rest) keep =
      let c : ℕ = l.initialization.class in
      let same : (sh'.states c ≡ InProgress t) × (sh'.regions c ≡ sh.regions c) × (fuel' c ≡ fuel c) =
      keep.classes c (inl refl) a by in
      Inside a same.0 p (KnowsFrames-mono _ _ (known-mono S.I sh.states sh'.states keep.names (Class c)) fs k)
      (rw (same.1, same.2) going) higher
      (tower_keep sh sh' fuel fuel' t l.under ms rest (keep_under sh sh' fuel fuel' t l ms keep))

  -- a stack is never empty
  pub tower_standing : (sh : SharedState) (fuel : Fuel) (t : ℕ) (fs : List Frame) (ls : List Level)
      → Tower sh fuel t fs ls →
      standing fs ls ≡ Going fs ls
  tower_standing sh fuel t fs ls (Base k) = refl
  tower_standing sh fuel t [] ls (Plain n k p none rest) = refl
  tower_standing sh fuel t (f ∷ fs) ls (Plain n k p none rest) = refl
  tower_standing sh fuel t [] ls (Inside a by p k going higher rest) = refl
  tower_standing sh fuel t (f ∷ fs) ls (Inside a by p k going higher rest) = refl

  -- ---- a step of one thread

  -- what thread t's step, which leaves this shared state and this stack, has to show
  pub record Changes (fuel fuel' : Fuel) (sh sh' : SharedState) (t : ℕ) (th : Thread) : Type 0 where
    pub sane : SharedStates.IsSane S sh'
    pub named : SharedStates.HasNamed S sh'.states sh'.regions
    pub sound : AgreeingRows.NoneFailed S sh'
    pub stands : StandsAt sh' fuel' t th
    pub names : Fewer (shown S.I sh.states) (shown S.I sh'.states)
    -- the classes in progress by other threads stay as they are
    pub others : (c u : ℕ) → S.I.holds c ≡ true → (u == t) ≡ false → sh.states c ≡ InProgress u →
        (sh'.states c ≡ InProgress u) × (sh'.regions c ≡ sh.regions c) × (fuel' c ≡ fuel c)
    pub busy : (c u : ℕ) → S.I.holds c ≡ true → sh'.states c ≡ InProgress u →
        (((u == t) ≡ false) × (sh.states c ≡ InProgress u)) ⊎ ((u ≡ t) × OnThread c th)
    -- a class that is not begun was not, and is blank still
    pub fresh : (c : ℕ) → S.I.holds c ≡ true → sh'.states c ≡ Uninitialized →
        (sh.states c ≡ Uninitialized) × (sh'.regions c ≡ sh.regions c) × (fuel' c ≡ fuel c)

  stands_keep : (sh sh' : SharedState) (fuel fuel' : Fuel) (t : ℕ) (th : Thread) → StandsAt sh fuel t th →
      ((c : ℕ) → S.I.holds c ≡ true → sh.states c ≡ InProgress t → (sh'.states c ≡ InProgress t)
      × (sh'.regions c ≡ sh.regions c) × (fuel' c ≡ fuel c)) →
      Fewer (shown S.I sh.states) (shown S.I sh'.states) → StandsAt sh' fuel' t th
  stands_keep sh sh' fuel fuel' t (Going fs ls) h keep names =
      tower_keep sh sh' fuel fuel' t fs ls h (record { classes = λ c on a by. keep c a by; names = names })
  stands_keep sh sh' fuel fuel' t (Ended end) h keep names = tt

  pub invariant_put : (fuel fuel' : Fuel) (w : World) (t : ℕ) (sh' : SharedState) (th : Thread) → t < length w.threads
      → Invariant fuel w →
      Changes fuel fuel' w.shared sh' t th → Invariant fuel' (put w t sh' th)
  invariant_put fuel fuel' w t sh' th within inv ch = record {
    sane = ch.sane;
    named = ch.named;
    sound = ch.sound;
    stands = λ u. elim (tested (u == t)) [
      | inl e ↦ rw (thread_at-put w t u sh' th within, e, eqb-true u t e) ch.stands
      | inr e ↦
          rw (thread_at-put w t u sh' th within, e)
          (stands_keep w.shared sh' fuel fuel' u (thread_at w u) (inv.stands u) (λ c a by. ch.others c u a e by)
          ch.names)
    ];
    busy = λ c u a by. elim (tested (u == t)) [
      | inl e ↦ elim (ch.busy c u a by) [
        | inl p ↦ (let clash : true ≡ false = sym e ∙ p.0 in cc)
        | inr p ↦ rw (thread_at-put w t u sh' th within, e) p.1
      ]
      | inr e ↦ elim (ch.busy c u a by) [
        | inl p ↦ rw (thread_at-put w t u sh' th within, e) (inv.busy c u a p.1)
        | inr p ↦ (let clash : false ≡ true = sym e ∙ eq-eqb u t p.0 in cc)
      ]
    ];
    fresh = λ c a un.
        let same : (w.shared.states c ≡ Uninitialized) × (sh'.regions c ≡ w.shared.regions c) × (fuel' c ≡ fuel c) =
        ch.fresh c a un in
        let old : (w.shared.regions c ≡ blank_region S.P c) × Promise c (fuel c) = inv.fresh c a same.0 in
        (same.1 ∙ old.0, rw same.2 old.1);
  }
