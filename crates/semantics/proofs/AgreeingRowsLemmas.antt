-- One row of a frame above no accepted class's initialization, in the lazy world and in the image's: both move alike,
-- or the lazy one has an accepted class to initialize first.
use Rattle.std.proofs.Common.{◌≡◌, ◌≢◌, ℕ, Bool, true, false, ◌⊎◌, inl, inr, List, [], ◌∷◌, ◌++◌, ◌==◌, refl, sym, ap}
use Rattle.std.proofs.Common.{◌∙◌, subst, eqb-true}
use Rattle.vm_state.specs.declared.value.Value.{Value}
use Rattle.vm_state.specs.declared.value.Maker.{Maker}
use Rattle.vm_state.specs.declared.value.Maker.TheVariants.{Class, Thread}
use Rattle.vm_state.specs.declared.ends.FaultKind.TheVariants.{Fault}
use Rattle.vm_state.specs.declared.classes.ClassState.TheVariants.{Uninitialized, InProgress, Initialized, Erroneous}
use Rattle.vm_state.specs.declared.classes.Usability.TheVariants.{Ready, Fresh, Busy, Broken}
use Rattle.vm_state.specs.Output.{Print as OnePrint}
use Rattle.vm_state.specs.Statics.{usable}
use Rattle.vm_state.specs.SharedState.{Pool, Region, SharedState, pool_of, set_pool, set_region, with_field, with_slot}
use Rattle.vm_state.specs.SharedState.{with_new}
use Rattle.vm_state.specs.SharedState.{with_print, class_at}
use Rattle.semantics.specs.Rows.{Outcome, Halt, Row, Ends, UseClass, ReadStatic, WriteStatic, AskClass, LookInto}
use Rattle.semantics.specs.Rows.{Change, Make}
use Rattle.semantics.specs.Rows.{UseMonitor, Print, part_at}
use Rattle.semantics.specs.Rows.{Result, Moved, Needs, Waits, lock_monitor, run_row}
use Rattle.vm_state.specs.SharedState.{monitor_of, with_monitor}
use Rattle.semantics.specs.Quiet.{is_final}
use Rattle.semantics.specs.Erasure.{is_hidden, IsErasedState}
use Rattle.semantics.specs.Lawful.{Knows, KnowsOutcome, Fits}
use Rattle.vm_state.proofs.ListLemmas.{tested}
use Rattle.semantics.proofs.KnownNamesLemmas.{Knows-mono, KnowsAll-mono, KnowsSlots-mono}
use Rattle.semantics.proofs.PoolsLemmas.{Holds, with_slot-holds, with_monitor-holds, with_new-holds, with_slot-shape}
use Rattle.semantics.proofs.PoolsLemmas.{with_monitor-shape, part_at-holds}
use Rattle.semantics.proofs.VisibilityLemmas.{States, hidden_maker, shown, known, known_shown, known_narrow, visible}
use Rattle.semantics.proofs.VisibilityLemmas.{hidden_done, hidden_other}
use Rattle.semantics.proofs.UsabilitiesLemmas.{used, usable_fresh, usable_busy, usable_broken, usable_ready}
use Rattle.semantics.proofs.LocksLemmas.{locked}
use Rattle.semantics.proofs.SettingLemmas.{Setting}
use Rattle.semantics.proofs.SharedStatesLemmas as SharedStates

module _ (S : Setting) where
  -- ---- what a class is to thread t in the two worlds, where no accepted class is in progress on that thread

  pub data Reach (t : ℕ) (sh sv : SharedState) (c : ℕ) : Type 0 where
    BothReady : usable t (sh.states c) ≡ Ready → usable t (sv.states c) ≡ Ready → is_hidden S.I sh.states c ≡ false
        → Reach t sh sv c
    BothFresh : usable t (sh.states c) ≡ Fresh → usable t (sv.states c) ≡ Fresh → S.I.holds c ≡ false → Reach t sh sv c
    BothBusy : usable t (sh.states c) ≡ Busy → usable t (sv.states c) ≡ Busy → Reach t sh sv c
    BothBroken : usable t (sh.states c) ≡ Broken → usable t (sv.states c) ≡ Broken → Reach t sh sv c
    MustBegin : usable t (sh.states c) ≡ Fresh → S.I.holds c ≡ true → Reach t sh sv c
    MustWait : usable t (sh.states c) ≡ Busy → S.I.holds c ≡ true → Reach t sh sv c

  -- no accepted class has failed
  abbrev pub NoneFailed : SharedState → Type 0
  NoneFailed sh = (c : ℕ) → S.I.holds c ≡ true → sh.states c ≢ Erroneous

  -- no accepted class is in progress by this thread
  abbrev pub NoneBy : ℕ → SharedState → Type 0
  NoneBy t sh = (c : ℕ) → S.I.holds c ≡ true → sh.states c ≢ InProgress t

  pub reach : (t : ℕ) (sh sv : SharedState) → IsErasedState S.I sh sv → NoneFailed sh → NoneBy t sh → (c : ℕ)
      → Reach t sh sv c
  reach t sh sv like sound outside c = elim (tested (S.I.holds c)) [
    | inl a ↦ elim (used (usable t (sh.states c))) [
      | inl r ↦
          let is_done : sh.states c ≡ Initialized =
          elim (usable_ready t (sh.states c) r) [ inl d ↦ d | inr b ↦ absurd (outside c a b) ] in
          BothReady r (rw (like.done c a) refl) (hidden_done S.I sh.states c is_done)
      | inr (inl f) ↦ MustBegin f a
      | inr (inr (inl b)) ↦ MustWait b a
      | inr (inr (inr k)) ↦ absurd (sound c a (usable_broken t (sh.states c) k))
    ]
    | inr n ↦
        let same : usable t (sv.states c) ≡ usable t (sh.states c) = ap (usable t) (like.states c n) in
        elim (used (usable t (sh.states c))) [
          | inl r ↦ BothReady r (same ∙ r) (hidden_other S.I sh.states c n)
          | inr (inl f) ↦ BothFresh f (same ∙ f) n
          | inr (inr (inl b)) ↦ BothBusy b (same ∙ b)
          | inr (inr (inr k)) ↦ BothBroken k (same ∙ k)
        ]
  ]

  -- ---- what the row gives in the two worlds

  -- the same outcome, and again a lazy world and its erasure
  pub record MovedAlike (first : ℕ → Region) (st : States) (outcome : Outcome) (sh : SharedState)
      (r : Result) : Type 0 where
    pub other : SharedState
    pub same : r ≡ Moved outcome other
    pub like : IsErasedState S.I sh other
    pub sane : SharedStates.IsSane S sh
    pub hidden : SharedStates.KeepsHidden S first sh
    pub states : sh.states ≡ st
    pub outcome_known : KnowsOutcome (shown S.I st) outcome

  -- an accepted class is in progress
  abbrev pub HalfDone : SharedState → Type 0
  HalfDone sh = (c : ℕ) × (u : ℕ) × (S.I.holds c ≡ true) × (sh.states c ≡ InProgress u)

  abbrev pub Agrees : (ℕ → Region) → SharedState → Result → Result → Type 0
  Agrees first sh (Moved outcome new) r = MovedAlike first sh.states outcome new r
  Agrees first sh (Needs c) r = (sh.states c ≡ Uninitialized)
      × ((S.I.holds c ≡ true) ⊎ ((S.I.holds c ≡ false) × (r ≡ Needs c)))
  Agrees first sh Waits r = HalfDone sh ⊎ (r ≡ Waits)

  -- for thread t, whose new objects are counted by a maker that is no accepted class, in frames of initializers that
  -- `own` has
  module _ (t : ℕ) (maker : Maker) (maker_other : (c : ℕ) → S.I.holds c ≡ true → maker ≢ Class c)
      (own : ℕ → Bool) (own_other : (c : ℕ) → S.I.holds c ≡ true → own c ≡ false) (first : ℕ → Region) where
    maker_shown : (st : States) → hidden_maker S.I st maker ≡ false
    maker_shown st = go maker maker_other
      where
        go : (m : Maker) → ((c : ℕ) → S.I.holds c ≡ true → m ≢ Class c) → hidden_maker S.I st m ≡ false
        go (Thread u) h = refl
        go (Class c) h = elim (tested (S.I.holds c)) [ inl a ↦ absurd (h c a refl) | inr n ↦ hidden_other S.I st c n ]

    -- a static of a class that is known to have failed is not reached: the row asked for the class before
    halted : (sh sv : SharedState) → SharedStates.IsSane S sh → IsErasedState S.I sh sv
        → SharedStates.KeepsHidden S first sh →
        MovedAlike first sh.states (Halt Fault) sh (Moved (Halt Fault) sv)
    halted sh sv sane like hidden = record {
      other = sv;
      same = refl;
      like = like;
      sane = sane;
      hidden = hidden;
      states = refl;
      outcome_known = tt;
    }

    -- a static that may be written is no final of an accepted class
    wrote : (sh : SharedState) → SharedStates.IsSane S sh → (c f : ℕ) (v : Value)
        → Knows (known S.I sh.states (Class c)) v →
        (is_final S.P c f ≡ true → own c ≡ true)
        → SharedStates.IsSane S (set_region sh c (with_field (sh.regions c) f v))
    wrote sh sane c f v kv may = SharedStates.set_region-sane S sh sane c (with_field (sh.regions c) f v)
        (λ g. elim (tested (g == f)) [ inl e ↦ rw e kv | inr e ↦ rw e (sane.statics c g) ])
        (sane.objects (Class c))
        (λ g a s fin. elim (tested (g == f)) [
          | inl e ↦
              let finally : is_final S.P c f ≡ true = rw (← eqb-true g f e) fin in
              let clash : true ≡ false = sym (may finally) ∙ own_other c a in
              cc
          | inr e ↦ rw e (sane.finals c g a s fin)
        ])
        (λ k a s. sane.classes c k a s)

    pub agree : (row : Row) (sh sv : SharedState) → SharedStates.IsSane S sh → IsErasedState S.I sh sv → NoneFailed sh
        → NoneBy t sh →
        SharedStates.KeepsHidden S first sh → Fits S.P (shown S.I sh.states) own row →
        Agrees first sh (run_row t maker sh row) (run_row t maker sv row)
    agree (Ends outcome) sh sv sane like sound outside hidden fit = record {
      other = sv;
      same = refl;
      like = like;
      sane = sane;
      hidden = hidden;
      states = refl;
      outcome_known = fit.0;
    }
    agree (UseClass c next) sh sv sane like sound outside hidden fit = elim (reach t sh sv like sound outside c) [
      | BothReady a b v ↦ rw (a, b) (agree (next true) sh sv sane like sound outside hidden (fit true))
      | BothFresh a b n ↦ rw (a, b) (usable_fresh t (sh.states c) a, inr (n, refl))
      | BothBusy a b ↦ rw (a, b) (inr refl)
      | BothBroken a b ↦ rw (a, b) (agree (next false) sh sv sane like sound outside hidden (fit false))
      | MustBegin a y ↦ rw a (usable_fresh t (sh.states c) a, inl y)
      | MustWait a y ↦ rw a (inl (c, (usable_busy t (sh.states c) a).0, y, (usable_busy t (sh.states c) a).1))
    ]
    agree (ReadStatic c f next) sh sv sane like sound outside hidden fit = elim (reach t sh sv like sound outside c) [
      | BothReady a b v ↦
          let narrow : Knows (shown S.I sh.states) ((sh.regions c).fields f) =
          Knows-mono (known S.I sh.states (Class c)) (shown S.I sh.states) (known_narrow S.I sh.states (Class c) v) _
          (sane.statics c f) in
          rw (a, b, like.regions c v)
          (agree (next ((sh.regions c).fields f)) sh sv sane like sound outside hidden
          (fit ((sh.regions c).fields f) narrow))
      | BothFresh a b n ↦ rw (a, b) (usable_fresh t (sh.states c) a, inr (n, refl))
      | BothBusy a b ↦ rw (a, b) (inr refl)
      | BothBroken a b ↦ rw (a, b) (halted sh sv sane like hidden)
      | MustBegin a y ↦ rw a (usable_fresh t (sh.states c) a, inl y)
      | MustWait a y ↦ rw a (inl (c, (usable_busy t (sh.states c) a).0, y, (usable_busy t (sh.states c) a).1))
    ]
    agree (WriteStatic c f v next) sh sv sane like sound outside hidden fit =
        elim (reach t sh sv like sound outside c) [
          | BothReady a b w ↦
              let wide : Knows (known S.I sh.states (Class c)) v =
              Knows-mono (shown S.I sh.states) (known S.I sh.states (Class c)) (known_shown S.I sh.states (Class c)) v
              fit.0 in
              rw (a, b)
              (agree next (set_region sh c (with_field (sh.regions c) f v))
              (set_region sv c (with_field (sv.regions c) f v))
              (wrote sh sane c f v wide fit.1)
              (SharedStates.set_region-erased S sh sv like c w _ _
              (ap (λ (r : Region). with_field r f v) (like.regions c w)))
              sound outside (SharedStates.set_region-hidden S first sh hidden c w _) fit.2)
          | BothFresh a b n ↦ rw (a, b) (usable_fresh t (sh.states c) a, inr (n, refl))
          | BothBusy a b ↦ rw (a, b) (inr refl)
          | BothBroken a b ↦ rw (a, b) (halted sh sv sane like hidden)
          | MustBegin a y ↦ rw a (usable_fresh t (sh.states c) a, inl y)
          | MustWait a y ↦ rw a (inl (c, (usable_busy t (sh.states c) a).0, y, (usable_busy t (sh.states c) a).1))
        ]
    agree (AskClass x next) sh sv sane like sound outside hidden fit =
        subst (λ (p : Pool). Agrees first sh (run_row t maker sh (next (class_at (pool_of sh x.maker) x.number)))
        (run_row t maker sv (next (class_at p x.number))))
        (sym (SharedStates.same_pool S sh sv like x.maker (visible S.I sh.states x fit.0)))
        (agree (next (class_at (pool_of sh x.maker) x.number)) sh sv sane like sound outside hidden (fit.1 _))
    agree (LookInto x part next) sh sv sane like sound outside hidden fit =
        let v : hidden_maker S.I sh.states x.maker ≡ false = visible S.I sh.states x fit.0 in
        subst (λ (p : Pool). Agrees first sh (run_row t maker sh (next (part_at part (pool_of sh x.maker) x.number)))
        (run_row t maker sv (next (part_at part p x.number))))
        (sym (SharedStates.same_pool S sh sv like x.maker v))
        (agree (next (part_at part (pool_of sh x.maker) x.number)) sh sv sane like sound outside hidden
        (fit.1 _ (KnowsSlots-mono (known S.I sh.states x.maker) (shown S.I sh.states)
        (known_narrow S.I sh.states x.maker v) _
        (part_at-holds (known S.I sh.states x.maker) part (pool_of sh x.maker) x.number (sane.objects x.maker)))))
    agree (Change x i v next) sh sv sane like sound outside hidden fit =
        let w : hidden_maker S.I sh.states x.maker ≡ false = visible S.I sh.states x fit.0 in
        agree next (set_pool sh x.maker (with_slot (pool_of sh x.maker) x.number i v))
        (set_pool sv x.maker (with_slot (pool_of sv x.maker) x.number i v))
        (SharedStates.set_pool-sane S sh sane x.maker _
        (with_slot-holds (known S.I sh.states x.maker) (pool_of sh x.maker) x.number i v (sane.objects x.maker)
        (Knows-mono (shown S.I sh.states) (known S.I sh.states x.maker) (known_shown S.I sh.states x.maker) v fit.1))
        (λ c e a s k. with_slot-shape (pool_of sh x.maker) x.number i v k))
        (SharedStates.set_pool-erased S sh sv like x.maker w _ _
        (ap (λ (p : Pool). with_slot p x.number i v) (SharedStates.same_pool S sh sv like x.maker w)))
        sound outside (SharedStates.set_pool-hidden S first sh hidden x.maker w _) fit.2
    agree (Make class slots next) sh sv sane like sound outside hidden fit =
        let w : hidden_maker S.I sh.states maker ≡ false = maker_shown sh.states in
        let e : pool_of sv maker ≡ pool_of sh maker = SharedStates.same_pool S sh sv like maker w in
        subst (λ (n : ℕ). Agrees first sh
        (run_row t maker (set_pool sh maker (with_new (pool_of sh maker) class slots))
        (next (record { maker = maker; number = (pool_of sh maker).count })))
        (run_row t maker (set_pool sv maker (with_new (pool_of sv maker) class slots))
        (next (record { maker = maker; number = n }))))
        (sym (ap (λ (p : Pool). p.count) e))
        (agree (next (record { maker = maker; number = (pool_of sh maker).count }))
        (set_pool sh maker (with_new (pool_of sh maker) class slots))
        (set_pool sv maker (with_new (pool_of sv maker) class slots))
        (SharedStates.set_pool-sane S sh sane maker _
        (with_new-holds (known S.I sh.states maker) (pool_of sh maker) class slots (sane.objects maker)
        (KnowsAll-mono (shown S.I sh.states) (known S.I sh.states maker) (known_shown S.I sh.states maker) slots fit.0))
        (λ c same a s k. absurd (maker_other c a same)))
        (SharedStates.set_pool-erased S sh sv like maker w _ _ (ap (λ (p : Pool). with_new p class slots) e))
        sound outside (SharedStates.set_pool-hidden S first sh hidden maker w _) (fit.1 _ (rw w refl)))
    agree (UseMonitor x enter next) sh sv sane like sound outside hidden fit =
        let w : hidden_maker S.I sh.states x.maker ≡ false = visible S.I sh.states x fit.0 in
        let e : pool_of sv x.maker ≡ pool_of sh x.maker = SharedStates.same_pool S sh sv like x.maker w in
        let same : lock_monitor t enter (monitor_of ((pool_of sv x.maker).at x.number)) ≡ lock_monitor t enter
        (monitor_of ((pool_of sh x.maker).at x.number)) =
        ap (λ (p : Pool). lock_monitor t enter (monitor_of (p.at x.number))) e in
        elim (locked (lock_monitor t enter (monitor_of ((pool_of sh x.maker).at x.number)))) [
          | inl b ↦ rw (b, same ∙ b) (inr refl)
          | inr p ↦
              rw (p.2, same ∙ p.2)
              (agree (next p.0) (set_pool sh x.maker (with_monitor (pool_of sh x.maker) x.number p.1))
              (set_pool sv x.maker (with_monitor (pool_of sv x.maker) x.number p.1))
              (SharedStates.set_pool-sane S sh sane x.maker _
              (with_monitor-holds (known S.I sh.states x.maker) (pool_of sh x.maker) x.number p.1
              (sane.objects x.maker))
              (λ c f a s k. with_monitor-shape (pool_of sh x.maker) x.number p.1 k))
              (SharedStates.set_pool-erased S sh sv like x.maker w _ _
              (ap (λ (q : Pool). with_monitor q x.number p.1) e))
              sound outside (SharedStates.set_pool-hidden S first sh hidden x.maker w _) (fit.1 p.0))
        ]
    agree (Print text next) sh sv sane like sound outside hidden fit =
        agree next (with_print sh (record { thread = t; text = text }))
        (with_print sv (record { thread = t; text = text }))
        (record { statics = sane.statics; objects = the_objects; finals = sane.finals; classes = sane.classes })
        (record {
          done = like.done;
          states = like.states;
          region = like.region;
          regions = like.regions;
          pools = like.pools;
          printed = ap (λ (ls : List OnePrint). ls ++ record { thread = t; text = text } ∷ []) like.printed;
        })
        sound outside hidden fit
      where
        the_objects : (m : Maker)
            → Holds (known S.I sh.states m) (pool_of (with_print sh (record { thread = t; text = text })) m)
        the_objects (Class c) k = sane.objects (Class c) k
        the_objects (Thread u) k = sane.objects (Thread u) k
