-- What holds of a lazy world's shared state, what is the same in the image's, and how changes of both keep it.
use Rattle.std.proofs.Common.{◌≡◌, ◌≢◌, ℕ, Bool, true, false, cond, inl, inr, ◌==◌, sym, ap, ◌∙◌, subst, eqb-true}
use Rattle.vm_state.specs.declared.value.Maker.{Maker}
use Rattle.vm_state.specs.declared.value.Maker.TheVariants.{Class, Thread}
use Rattle.vm_state.specs.declared.classes.ClassState.{ClassState}
use Rattle.vm_state.specs.declared.classes.ClassState.TheVariants.{Initialized}
use Rattle.vm_state.specs.SharedState.{Pool, Region, SharedState, same_maker, pool_of, set_pool, set_region, slots_at}
use Rattle.semantics.specs.Rows.{Row, Outcome, Moved, run_row}
use Rattle.semantics.specs.Quiet.{is_final}
use Rattle.semantics.specs.Erasure.{is_hidden, IsErasedState}
use Rattle.semantics.specs.Lawful.{Knows, KnowsSlots, KeepsNamed, LeavesNamed}
use Rattle.vm_state.proofs.ListLemmas.{tested}
use Rattle.semantics.proofs.TestsLemmas.{same_maker-true}
use Rattle.semantics.proofs.PoolsLemmas.{Holds, shape_at}
use Rattle.semantics.proofs.VisibilityLemmas.{hidden_maker, known}
use Rattle.semantics.proofs.SettingLemmas.{Setting}

module _ (S : Setting) where
  -- statics and objects hold known names; finals, and the classes and lengths of objects, of an accepted class that is
  -- done are its region's
  pub record IsSane (sh : SharedState) : Type 0 where
    pub statics : (c f : ℕ) → Knows (known S.I sh.states (Class c)) ((sh.regions c).fields f)
    pub objects : (m : Maker) → Holds (known S.I sh.states m) (pool_of sh m)
    pub finals : (c f : ℕ) → S.I.holds c ≡ true → sh.states c ≡ Initialized → is_final S.P c f ≡ true →
        (sh.regions c).fields f ≡ (S.I.region c).fields f
    pub classes : (c k : ℕ) → S.I.holds c ≡ true → sh.states c ≡ Initialized
        → shape_at (sh.regions c).pool k ≡ shape_at (S.I.region c).pool k

  -- the names and ordinals of Enum objects that an accepted class's region has are there once it is done
  abbrev pub HasNamed : (ℕ → ClassState) → (ℕ → Region) → Type 0
  HasNamed states regions =
      (c : ℕ) → S.I.holds c ≡ true → states c ≡ Initialized → KeepsNamed S.P (S.I.region c).pool (regions c).pool

  -- a row whose new objects are counted by no accepted class keeps them
  pub named_after : (row : Row) → LeavesNamed S.P row → (t : ℕ) (maker : Maker)
      → ((c : ℕ) → S.I.holds c ≡ true → maker ≢ Class c) → (sh new : SharedState) (outcome : Outcome)
      → run_row t maker sh row ≡ Moved outcome new → new.states ≡ sh.states → HasNamed sh.states sh.regions
      → HasNamed new.states new.regions
  named_after row leaves t maker other sh new outcome led same has c a done n vs is =
      let apart : same_maker maker (Class c) ≡ false = elim (tested (same_maker maker (Class c))) [
        | inl e ↦ absurd (other c a (same_maker-true maker (Class c) e))
        | inr e ↦ e
      ] in
      leaves t maker sh outcome new led (Class c) apart n vs
      (has c a (sym (ap (λ (st : ℕ → ClassState). st c) same) ∙ done) n vs is)

  -- ---- a region changes

  pub set_region-sane : (sh : SharedState) → IsSane sh → (c : ℕ) (r : Region) →
      ((f : ℕ) → Knows (known S.I sh.states (Class c)) (r.fields f)) → Holds (known S.I sh.states (Class c)) r.pool →
      ((f : ℕ) → S.I.holds c ≡ true → sh.states c ≡ Initialized → is_final S.P c f ≡ true
      → r.fields f ≡ (S.I.region c).fields f) →
      ((k : ℕ) → S.I.holds c ≡ true → sh.states c ≡ Initialized → shape_at r.pool k ≡ shape_at (S.I.region c).pool k) →
      IsSane (set_region sh c r)
  set_region-sane sh sane c r kf kp ff fc = record {
    statics = λ d f. elim (tested (d == c)) [
      | inl e ↦ rw (e, eqb-true d c e) (kf f)
      | inr e ↦ rw e (sane.statics d f)
    ];
    objects = the_objects;
    finals = λ d f a s fin. elim (tested (d == c)) [
      | inl e ↦
          let same : d ≡ c = eqb-true d c e in
          rw (e, same) (ff f (rw same at a) (rw same at s) (rw same at fin))
      | inr e ↦ rw e (sane.finals d f a s fin)
    ];
    classes = λ d k a s. elim (tested (d == c)) [
      | inl e ↦
          let same : d ≡ c = eqb-true d c e in
          rw (e, same) (fc k (rw same at a) (rw same at s))
      | inr e ↦ rw e (sane.classes d k a s)
    ];
  }
    where
      the_objects : (m : Maker) → Holds (known S.I sh.states m) (pool_of (set_region sh c r) m)
      the_objects (Thread t) k = sane.objects (Thread t) k
      the_objects (Class d) k = elim (tested (d == c)) [
        | inl e ↦
            subst (λ (q : Pool). KnowsSlots (known S.I sh.states (Class d)) (slots_at q k))
            (sym (ap (λ (b : Bool). (cond b r (sh.regions d)).pool) e)) (rw (eqb-true d c e) (kp k))
        | inr e ↦
            subst (λ (q : Pool). KnowsSlots (known S.I sh.states (Class d)) (slots_at q k))
            (sym (ap (λ (b : Bool). (cond b r (sh.regions d)).pool) e)) (sane.objects (Class d) k)
      ]

  -- ---- some objects change

  -- if they are those of an accepted class that is done, they keep their shapes
  abbrev pub KeepsClasses : SharedState → Maker → Pool → Type 0
  KeepsClasses sh m p =
      (c : ℕ) → m ≡ Class c → S.I.holds c ≡ true → sh.states c ≡ Initialized → (k : ℕ)
      → shape_at p k ≡ shape_at (pool_of sh m) k

  pub set_pool-sane : (sh : SharedState) → IsSane sh → (m : Maker) (p : Pool) →
      Holds (known S.I sh.states m) p → KeepsClasses sh m p → IsSane (set_pool sh m p)
  set_pool-sane sh sane (Thread t) p kp kc = record {
    statics = sane.statics;
    objects = the_objects;
    finals = sane.finals;
    classes = sane.classes;
  }
    where
      the_objects : (m : Maker) → Holds (known S.I sh.states m) (pool_of (set_pool sh (Thread t) p) m)
      the_objects (Class d) k = sane.objects (Class d) k
      the_objects (Thread u) k = elim (tested (t == u)) [
        | inl e ↦ rw (e, ← eqb-true t u e) (kp k)
        | inr e ↦ rw e (sane.objects (Thread u) k)
      ]
  set_pool-sane sh sane (Class c) p kp kc = record {
    statics = λ d f. elim (tested (c == d)) [
      | inl e ↦ rw e (sane.statics d f)
      | inr e ↦ rw e (sane.statics d f)
    ];
    objects = the_objects;
    finals = λ d f a s fin. elim (tested (c == d)) [
      | inl e ↦ rw e (sane.finals d f a s fin)
      | inr e ↦ rw e (sane.finals d f a s fin)
    ];
    classes = λ d k a s. elim (tested (c == d)) [
      | inl e ↦
          let same : d ≡ c = sym (eqb-true c d e) in
          rw e (kc d (ap Class (sym same)) a s k ∙ (rw same (sane.classes c k (rw same at a) (rw same at s))))
      | inr e ↦ rw e (sane.classes d k a s)
    ];
  }
    where
      the_objects : (m : Maker) → Holds (known S.I sh.states m) (pool_of (set_pool sh (Class c) p) m)
      the_objects (Thread u) k = sane.objects (Thread u) k
      the_objects (Class d) k = elim (tested (c == d)) [
        | inl e ↦
            subst (λ (q : Pool). KnowsSlots (known S.I sh.states (Class d)) (slots_at q k))
            (sym (ap (λ (b : Bool). (cond b (record (sh.regions d) { pool = p }) (sh.regions d)).pool) e))
            (rw (← eqb-true c d e) (kp k))
        | inr e ↦
            subst (λ (q : Pool). KnowsSlots (known S.I sh.states (Class d)) (slots_at q k))
            (sym (ap (λ (b : Bool). (cond b (record (sh.regions d) { pool = p }) (sh.regions d)).pool) e))
            (sane.objects (Class d) k)
      ]

  -- ---- in the lazy world and in the image's

  -- the two worlds have the same objects of a maker that is not hidden
  pub same_pool : (sh sv : SharedState) → IsErasedState S.I sh sv → (m : Maker) → hidden_maker S.I sh.states m ≡ false →
      pool_of sv m ≡ pool_of sh m
  same_pool sh sv like (Class c) v = ap (λ (r : Region). r.pool) (like.regions c v)
  same_pool sh sv like (Thread t) v = like.pools t

  pub set_region-erased : (sh sv : SharedState) → IsErasedState S.I sh sv → (c : ℕ) → is_hidden S.I sh.states c ≡ false
      →
      (r r' : Region) → r' ≡ r → IsErasedState S.I (set_region sh c r) (set_region sv c r')
  set_region-erased sh sv like c v r r' same = record {
    done = like.done;
    states = like.states;
    region = λ d h. elim (tested (d == c)) [
      | inl e ↦ (let clash : true ≡ false = sym h ∙ (rw (eqb-true d c e) v) in cc)
      | inr e ↦ rw e (like.region d h)
    ];
    regions = λ d h. elim (tested (d == c)) [
      | inl e ↦ rw e same
      | inr e ↦ rw e (like.regions d h)
    ];
    pools = like.pools;
    printed = like.printed;
  }

  pub set_pool-erased : (sh sv : SharedState) → IsErasedState S.I sh sv → (m : Maker)
      → hidden_maker S.I sh.states m ≡ false →
      (p p' : Pool) → p' ≡ p → IsErasedState S.I (set_pool sh m p) (set_pool sv m p')
  set_pool-erased sh sv like (Thread t) v p p' same = record {
    done = like.done;
    states = like.states;
    region = like.region;
    regions = like.regions;
    pools = λ u. elim (tested (t == u)) [ inl e ↦ rw e same | inr e ↦ rw e (like.pools u) ];
    printed = like.printed;
  }
  set_pool-erased sh sv like (Class c) v p p' same = record {
    done = like.done;
    states = like.states;
    region = λ d h. elim (tested (c == d)) [
      | inl e ↦ (let clash : true ≡ false = sym h ∙ (rw (← eqb-true c d e) v) in cc)
      | inr e ↦ rw e (like.region d h)
    ];
    regions = λ d h. elim (tested (c == d)) [
      | inl e ↦ rw (e, same, like.regions d h)
      | inr e ↦ rw e (like.regions d h)
    ];
    pools = like.pools;
    printed = like.printed;
  }

  -- ---- what hidden classes have

  -- each hidden class has what it had at first
  abbrev pub KeepsHidden : (ℕ → Region) → SharedState → Type 0
  KeepsHidden first sh = (c : ℕ) → is_hidden S.I sh.states c ≡ true → sh.regions c ≡ first c

  pub set_region-hidden : (first : ℕ → Region) (sh : SharedState) → KeepsHidden first sh → (c : ℕ)
      → is_hidden S.I sh.states c ≡ false →
      (r : Region) → KeepsHidden first (set_region sh c r)
  set_region-hidden first sh hidden c v r d h = elim (tested (d == c)) [
    | inl e ↦ (let clash : true ≡ false = sym h ∙ (rw (eqb-true d c e) v) in cc)
    | inr e ↦ rw e (hidden d h)
  ]

  pub set_pool-hidden : (first : ℕ → Region) (sh : SharedState) → KeepsHidden first sh → (m : Maker) →
      hidden_maker S.I sh.states m ≡ false → (p : Pool) → KeepsHidden first (set_pool sh m p)
  set_pool-hidden first sh hidden (Thread t) v p d h = hidden d h
  set_pool-hidden first sh hidden (Class c) v p d h = elim (tested (c == d)) [
    | inl e ↦ (let clash : true ≡ false = sym h ∙ (rw (← eqb-true c d e) v) in cc)
    | inr e ↦ rw e (hidden d h)
  ]
