-- One row of an accepted class's initializer in the lazy world does there what it does alone.
use Rattle.std.proofs.Common.{◌≡◌, ◌≢◌, ℕ, true, false, inl, inr, List, Option, Some, None, ◌==◌, refl, sym, ap, ◌∙◌}
use Rattle.std.proofs.Common.{subst, eqb-true, option_and_then}
use Rattle.std.proofs.Common.{eq-eqb, nat_lt, ◌+◌}
use Rattle.std.proofs.lemmas.Bool.{and_parts}
use Rattle.vm_state.specs.declared.value.Value.{Value}
use Rattle.vm_state.specs.declared.value.Name.{Name}
use Rattle.vm_state.specs.declared.value.Maker.{Maker}
use Rattle.vm_state.specs.declared.value.Maker.TheVariants.{Class, Thread}
use Rattle.vm_state.specs.declared.classes.ClassState.TheVariants.{Uninitialized, InProgress, Initialized}
use Rattle.vm_state.specs.declared.classes.Usability.TheVariants.{Ready, Fresh, Busy}
use Rattle.vm_state.specs.declared.object.Object.{Object}
use Rattle.vm_state.specs.Output.{Print as OnePrint}
use Rattle.vm_state.specs.Statics.{usable}
use Rattle.vm_state.specs.SharedState.{Pool, Region, SharedState, same_maker, pool_of, set_pool, set_region, with_field}
use Rattle.vm_state.specs.SharedState.{with_slot}
use Rattle.vm_state.specs.SharedState.{with_new, class_at}
use Rattle.semantics.specs.Rows.{Outcome, Next, Raise, Halt, Row, Ends, UseClass, ReadStatic, WriteStatic, AskClass}
use Rattle.semantics.specs.Rows.{LookInto, Change, Part, Slots, Length, Named}
use Rattle.semantics.specs.Rows.{Make, UseMonitor, Print, part_at}
use Rattle.semantics.specs.Rows.{Result, Moved, Needs, Waits, run_row}
use Rattle.semantics.specs.Quiet.{is_final, pool_seen, QuietMove, Refused, Barred, ForeignObject, Leaves, Stops}
use Rattle.semantics.specs.Quiet.{is_open, Conduct, at_hand, if_fixed, fixed_of, fixed_at, elements_in, quiet}
use Rattle.semantics.specs.Erasure.{is_hidden}
use Rattle.semantics.specs.Lawful.{Knows, KnowsAll, KnowsSlots, KnowsMove, Fits}
use Rattle.vm_state.proofs.ListLemmas.{tested}
use Rattle.semantics.proofs.TestsLemmas.{from_some, same_maker-true}
use Rattle.semantics.proofs.BranchesLemmas.{hand_value, fixed_value}
use Rattle.semantics.proofs.KnownNamesLemmas.{Knows-mono, KnowsAll-mono}
use Rattle.semantics.proofs.PoolsLemmas.{with_slot-holds, with_new-holds, part_at-holds, shape_at, shape-class}
use Rattle.semantics.proofs.PoolsLemmas.{fixed-part, length-fixed}
use Rattle.semantics.proofs.VisibilityLemmas.{States, shown, known, known_shown, known_narrow, hidden_done, shown_done}
use Rattle.semantics.proofs.UsabilitiesLemmas.{used, usable_fresh, usable_busy, usable_broken, usable_ready, usable_own}
use Rattle.semantics.proofs.SettingLemmas.{Setting, is_below, below}
use Rattle.semantics.proofs.SharedStatesLemmas as SharedStates
use Rattle.semantics.proofs.AgreeingRowsLemmas as AgreeingRows

module _ (S : Setting) where
  -- nothing but c's statics and objects differs from what was there
  pub record Only (c : ℕ) (regions : ℕ → Region) (pools : ℕ → Pool) (printed : List OnePrint)
      (sh : SharedState) : Type 0 where
    pub others : (d : ℕ) → (d == c) ≡ false → sh.regions d ≡ regions d
    pub same_pools : (u : ℕ) → sh.pools u ≡ pools u
    pub same_printed : sh.printed ≡ printed

  -- the row moves as it does alone
  pub record MovedQuietly (c : ℕ) (regions : ℕ → Region) (pools : ℕ → Pool) (printed : List OnePrint) (st : States)
      (m : QuietMove)
      (outcome : Outcome) (sh : SharedState) : Type 0 where
    pub outcome_is : outcome ≡ Next m.move
    pub own : sh.regions c ≡ m.region
    pub only : Only c regions pools printed sh
    pub sane : SharedStates.IsSane S sh
    pub states : sh.states ≡ st
    pub move : KnowsMove (known S.I st (Class c)) m.move

  -- for thread t, which is initializing the accepted class c
  module _ (t c : ℕ) (a : S.I.holds c ≡ true) (regions : ℕ → Region) (pools : ℕ → Pool) (printed : List OnePrint) where
    abbrev pub Calm : States → QuietMove → Result → Type 0
    Calm st m (Moved outcome sh) = MovedQuietly c regions pools printed st m outcome sh
    Calm st m (Needs d) = (is_below S.I S.wave c d ≡ true) × (st d ≡ Uninitialized)
    Calm st m Waits = (d : ℕ) × (u : ℕ) × (S.I.holds d ≡ true) × (st d ≡ InProgress u) × ((t == u) ≡ false)

    -- the classes that c may use are not in progress by this thread
    abbrev pub Free : States → Type 0
    Free st = (d : ℕ) → is_below S.I S.wave c d ≡ true → st d ≢ InProgress t

    accepted_below : (d : ℕ) → is_below S.I S.wave c d ≡ true → S.I.holds d ≡ true
    accepted_below d b = (and_parts (S.I.holds d) (nat_lt (S.wave d) (S.wave c)) b).0

    own_ready : (sh : SharedState) (d : ℕ) → sh.states c ≡ InProgress t → (d == c) ≡ true
        → usable t (sh.states d) ≡ Ready
    own_ready sh d by e = rw (eqb-true d c e, by) (usable_own t)

    -- what a class of a lower wave is to this thread
    pub data Below (sh : SharedState) (d : ℕ) : Type 0 where
      IsReady : usable t (sh.states d) ≡ Ready → sh.states d ≡ Initialized → Below sh d
      IsFresh : usable t (sh.states d) ≡ Fresh → sh.states d ≡ Uninitialized → Below sh d
      IsBusy : usable t (sh.states d) ≡ Busy → (u : ℕ) → sh.states d ≡ InProgress u → (t == u) ≡ false → Below sh d

    pub below_as : (sh : SharedState) → AgreeingRows.NoneFailed S sh → Free sh.states → (d : ℕ)
        → is_below S.I S.wave c d ≡ true →
        Below sh d
    below_as sh sound free d b = elim (used (usable t (sh.states d))) [
      | inl r ↦ IsReady r (elim (usable_ready t (sh.states d) r) [ inl x ↦ x | inr y ↦ absurd (free d b y) ])
      | inr (inl f) ↦ IsFresh f (usable_fresh t (sh.states d) f)
      | inr (inr (inl w)) ↦
          let k : (u : ℕ) × (sh.states d ≡ InProgress u) × ((t == u) ≡ false) = usable_busy t (sh.states d) w in
          IsBusy w k.0 k.1 k.2
      | inr (inr (inr x)) ↦ absurd (sound d (accepted_below d b) (usable_broken t (sh.states d) x))
    ]

    -- what never changes of an object that c's initializer may name
    same_seen : {A : Type 0} (sh : SharedState) (r : Region) → sh.regions c ≡ r → SharedStates.IsSane S sh
        → (x : Name) (p : Pool) →
        known S.I sh.states (Class c) x ≡ true → (on : Pool → A) →
        ((q s : Pool) → shape_at q x.number ≡ shape_at s x.number → on q ≡ on s) →
        pool_seen (below S.I S.wave c) c r x.maker ≡ Some p → on (pool_of sh x.maker) ≡ on p
    same_seen {A = A} sh r own sane x p k on by_shape seen = go x.maker k seen
      where
        go : (m : Maker) → known S.I sh.states (Class c) (record { maker = m; number = x.number }) ≡ true →
            pool_seen (below S.I S.wave c) c r m ≡ Some p → on (pool_of sh m) ≡ on p
        go (Thread u) kk s = cc
        go (Class d) kk s = elim (tested (d == c)) [
          | inl e ↦
              let q : r.pool ≡ p = from_some (rw e at s) in
              ap (λ (n : ℕ). on (sh.regions n).pool) (eqb-true d c e) ∙ (ap (λ (y : Region). on y.pool) own ∙ ap on q)
          | inr e ↦ elim (tested (is_below S.I S.wave c d)) [
            | inl b ↦
                let q : (S.I.region d).pool ≡ p = from_some (rw (e, b) at s) in
                let v : is_hidden S.I sh.states d ≡ false = elim (tested (is_hidden S.I sh.states d)) [
                  | inl h ↦ (let clash : false ≡ true = rw (h, e) at kk in cc)
                  | inr h ↦ h
                ] in
                by_shape _ _
                (sane.classes d x.number (accepted_below d b) (shown_done S.I sh.states d (accepted_below d b) v))
                ∙ ap on q
            | inr b ↦ (let clash : None ≡ Some p = rw (e, b) at s in cc)
          ]
        ]

    not_done : (sh : SharedState) → sh.states c ≡ InProgress t → sh.states c ≢ Initialized
    not_done sh by h = (let clash : InProgress t ≡ Initialized = sym by ∙ h in cc)

    not_done_as : (sh : SharedState) → sh.states c ≡ InProgress t → (d : ℕ) → Class c ≡ Class d
        → sh.states d ≢ Initialized
    not_done_as sh by d same h =
        let e : c ≡ d = cc in
        let clash : InProgress t ≡ Initialized = sym by ∙ (ap sh.states e ∙ h) in
        cc

    only_region : (sh : SharedState) → Only c regions pools printed sh → (r : Region)
        → Only c regions pools printed (set_region sh c r)
    only_region sh only r = record {
      others = λ d e. rw e (only.others d e);
      same_pools = only.same_pools;
      same_printed = only.same_printed;
    }

    only_pool : (sh : SharedState) → Only c regions pools printed sh → (p : Pool)
        → Only c regions pools printed (set_pool sh (Class c) p)
    only_pool sh only p = record {
      others = λ d e. elim (tested (c == d)) [
        | inl f ↦ (let clash : false ≡ true = sym e ∙ eq-eqb d c (sym (eqb-true c d f)) in cc)
        | inr f ↦ rw f (only.others d e)
      ];
      same_pools = only.same_pools;
      same_printed = only.same_printed;
    }

    own_known : (st : States) (k : ℕ) → known S.I st (Class c) (record { maker = Class c; number = k }) ≡ true
    own_known st k = elim (tested (shown S.I st (record { maker = Class c; number = k }))) [
      | inl e ↦ rw e
      | inr e ↦ rw (e, eq-eqb c c refl)
    ]

    asked : {A : Type 0} (sh : SharedState) (r : Region) → sh.regions c ≡ r → SharedStates.IsSane S sh
        → (x : Name) (next : A → Row) →
        known S.I sh.states (Class c) x ≡ true → (m : QuietMove) (on : Pool → A) →
        ((q s : Pool) → shape_at q x.number ≡ shape_at s x.number → on q ≡ on s) → (alone_with : Pool → Conduct) →
        at_hand (pool_seen (below S.I S.wave c) c r x.maker) alone_with ≡ Leaves m →
        ((p : Pool) → alone_with p ≡ Leaves m → Calm sh.states m (run_row t (Class c) sh (next (on p)))) →
        Calm sh.states m (run_row t (Class c) sh (next (on (pool_of sh x.maker))))
    asked {A = A} sh r own sane x next kx m on by_shape alone_with q goes_on =
        go (pool_seen (below S.I S.wave c) c r x.maker) refl
      where
        go : (o : Option Pool) → pool_seen (below S.I S.wave c) c r x.maker ≡ o →
            Calm sh.states m (run_row t (Class c) sh (next (on (pool_of sh x.maker))))
        go None e = (let clash : Stops Barred ≡ Leaves m = rw e at q in cc)
        go (Some p) e =
            subst (λ (o : A). Calm sh.states m (run_row t (Class c) sh (next o)))
            (sym (same_seen sh r own sane x p kx on by_shape e))
            (goes_on p (rw e at q))

    -- what is fixed of an object that another class made, in its region, is there, and known to c's initializer
    fixed_there : (sh : SharedState) (r : Region) → SharedStates.IsSane S sh → Only c regions pools printed sh
        → SharedStates.HasNamed S sh.states regions →
        (x : Name) (part : Part) (p : Pool) (vs : List Value) → known S.I sh.states (Class c) x ≡ true
        → same_maker (Class c) x.maker ≡ false → pool_seen (below S.I S.wave c) c r x.maker ≡ Some p →
        fixed_at S.P part p x.number ≡ Some vs →
        (part_at part (pool_of sh x.maker) x.number ≡ Some vs) × KnowsAll (known S.I sh.states (Class c)) vs
    fixed_there sh r sane only has x part p vs k other seen is = go x.maker k other seen
      where
        of_part : (d : ℕ) → S.I.holds d ≡ true → sh.states d ≡ Initialized → (d == c) ≡ false → (part : Part)
            → fixed_at S.P part (S.I.region d).pool x.number ≡ Some vs
            → fixed_at S.P part (sh.regions d).pool x.number ≡ Some vs
        of_part d ad done e Slots there = absurd (no_slots ((S.I.region d).pool.at x.number) there)
          where
            no_slots : (o : Option Object) → option_and_then (fixed_of S.P Slots) o ≡ Some vs → ⊥
            no_slots None h = cc
            no_slots (Some y) h = cc
        of_part d ad done e Length there =
            length-fixed S.P (sh.regions d).pool (S.I.region d).pool x.number (sane.classes d x.number ad done) ∙ there
        of_part d ad done e Named there =
            subst (λ (y : Region). fixed_at S.P Named y.pool x.number ≡ Some vs) (sym (only.others d e))
            (has d ad done x.number vs there)

        go : (m : Maker) → known S.I sh.states (Class c) (record { maker = m; number = x.number }) ≡ true →
            same_maker (Class c) m ≡ false → pool_seen (below S.I S.wave c) c r m ≡ Some p →
            (part_at part (pool_of sh m) x.number ≡ Some vs) × KnowsAll (known S.I sh.states (Class c)) vs
        go (Thread u) kk o s = cc
        go (Class d) kk o s =
            let e : (d == c) ≡ false = elim (tested (d == c)) [
              | inl y ↦ (let clash : false ≡ true = sym o ∙ eq-eqb c d (sym (eqb-true d c y)) in cc)
              | inr y ↦ y
            ] in
            elim (tested (is_below S.I S.wave c d)) [
              | inl b ↦
                  let q : (S.I.region d).pool ≡ p = from_some (rw (e, b) at s) in
                  let ad : S.I.holds d ≡ true = accepted_below d b in
                  let v : is_hidden S.I sh.states d ≡ false = elim (tested (is_hidden S.I sh.states d)) [
                    | inl h ↦ (let clash : false ≡ true = rw (h, e) at kk in cc)
                    | inr h ↦ h
                  ] in
                  let done : sh.states d ≡ Initialized = shown_done S.I sh.states d ad v in
                  let there : part_at part (sh.regions d).pool x.number ≡ Some vs =
                  fixed-part S.P part (sh.regions d).pool x.number vs
                  (of_part d ad done e part
                  (subst (λ (y : Pool). fixed_at S.P part y x.number ≡ Some vs) (sym q) is)) in
                  let narrow : KnowsAll (known S.I sh.states (Class d)) vs =
                  subst (KnowsSlots (known S.I sh.states (Class d))) there
                  (part_at-holds (known S.I sh.states (Class d)) part (sh.regions d).pool x.number
                  (sane.objects (Class d))) in (
                    there,
                    KnowsAll-mono (known S.I sh.states (Class d)) (known S.I sh.states (Class c))
                        (λ y h. known_shown S.I sh.states (Class c) y (known_narrow S.I sh.states (Class d) v y h)) vs
                        narrow,
                  )
              | inr b ↦ (let clash : None ≡ Some p = rw (e, b) at s in cc)
            ]

    -- a row that looks into an object goes on with what is there
    looked : (sh : SharedState) (x : Name) (part : Part) (next : Option (List Value) → Row) (vs : List Value)
        (m : QuietMove) → part_at part (pool_of sh x.maker) x.number ≡ Some vs →
        Calm sh.states m (run_row t (Class c) sh (next (Some vs))) →
        Calm sh.states m (run_row t (Class c) sh (next (part_at part (pool_of sh x.maker) x.number)))
    looked sh x part next vs m is on = rw is on

    pub alone : (row : Row) (sh : SharedState) (r : Region) (n : ℕ) → sh.regions c ≡ r → Only c regions pools printed sh
        →
        SharedStates.IsSane S sh → SharedStates.HasNamed S sh.states regions → AgreeingRows.NoneFailed S sh
        → sh.states c ≡ InProgress t → Free sh.states →
        Fits S.P (known S.I sh.states (Class c)) (λ d. true) row → (m : QuietMove)
        → quiet S.P (below S.I S.wave c) c r n row ≡ Leaves m →
        Calm sh.states m (run_row t (Class c) sh row)
    alone (Ends (Next move)) sh r n own only sane has sound by free keeps m q =
        let e : record { move = move; region = r; elements = n } ≡ m = cc in
        record {
          outcome_is = ap (λ (x : QuietMove). Next x.move) e;
          own = own ∙ ap (λ (x : QuietMove). x.region) e;
          only = only;
          sane = sane;
          states = refl;
          move = subst (λ (x : QuietMove). KnowsMove (known S.I sh.states (Class c)) x.move) e keeps.0;
        }
    alone (Ends (Raise x class)) sh r n own only sane has sound by free keeps m q = cc
    alone (Ends (Halt kind)) sh r n own only sane has sound by free keeps m q = cc
    alone (UseClass d next) sh r n own only sane has sound by free keeps m q = elim (tested (d == c)) [
      | inl e ↦
          let q' : quiet S.P (below S.I S.wave c) c r n (next true) ≡ Leaves m = rw e at q in
          rw (own_ready sh d by e) (alone (next true) sh r n own only sane has sound by free (keeps true) m q')
      | inr e ↦ elim (tested (is_below S.I S.wave c d)) [
        | inl b ↦
            let q' : quiet S.P (below S.I S.wave c) c r n (next true) ≡ Leaves m = rw (e, b) at q in
            elim (below_as sh sound free d b) [
              | IsReady u s ↦ rw u (alone (next true) sh r n own only sane has sound by free (keeps true) m q')
              | IsFresh f s ↦ rw f (b, s)
              | IsBusy w u s o ↦ rw w (d, u, accepted_below d b, s, o)
            ]
        | inr b ↦ (let clash : Stops Barred ≡ Leaves m = rw (e, b) at q in cc)
      ]
    ]
    alone (ReadStatic d f next) sh r n own only sane has sound by free keeps m q = elim (tested (d == c)) [
      | inl e ↦
          let q' : quiet S.P (below S.I S.wave c) c r n (next (r.fields f)) ≡ Leaves m = rw e at q in
          let v : (sh.regions d).fields f ≡ r.fields f =
          ap (λ (k : ℕ). (sh.regions k).fields f) (eqb-true d c e) ∙ ap (λ (y : Region). y.fields f) own in
          rw (own_ready sh d by e, v)
          (alone (next (r.fields f)) sh r n own only sane has sound by free
          (keeps (r.fields f) (subst (λ (y : Region). Knows (known S.I sh.states (Class c)) (y.fields f)) own
          (sane.statics c f))) m q')
      | inr e ↦ elim (tested (is_below S.I S.wave c d)) [
        | inl b ↦ elim (tested (is_final S.P d f)) [
          | inl fin ↦
              let q' : quiet S.P (below S.I S.wave c) c r n (next ((S.I.region d).fields f)) ≡ Leaves m =
              rw (e, b, fin) at q in
              let ad : S.I.holds d ≡ true = accepted_below d b in
              elim (below_as sh sound free d b) [
                | IsReady u s ↦
                    let v : (sh.regions d).fields f ≡ (S.I.region d).fields f = sane.finals d f ad s fin in
                    let kv : Knows (known S.I sh.states (Class c)) ((sh.regions d).fields f) =
                    Knows-mono (known S.I sh.states (Class d)) (known S.I sh.states (Class c))
                    (λ x h. known_shown S.I sh.states (Class c) x
                    (known_narrow S.I sh.states (Class d) (hidden_done S.I sh.states d s) x h)) _
                    (sane.statics d f) in
                    rw (u, v)
                    (alone (next ((S.I.region d).fields f)) sh r n own only sane has sound by free
                    (keeps _ (subst (Knows (known S.I sh.states (Class c))) v kv)) m q')
                | IsFresh u s ↦ rw u (b, s)
                | IsBusy w u s o ↦ rw w (d, u, ad, s, o)
              ]
          | inr fin ↦ (let clash : Stops Barred ≡ Leaves m = rw (e, b, fin) at q in cc)
        ]
        | inr b ↦ (let clash : Stops Barred ≡ Leaves m = rw (e, b) at q in cc)
      ]
    ]
    alone (WriteStatic d f v next) sh r n own only sane has sound by free keeps m q = elim (tested (d == c)) [
      | inl e ↦
          let q' : quiet S.P (below S.I S.wave c) c (with_field r f v) n next ≡ Leaves m = rw e at q in
          rw (own_ready sh d by e, eqb-true d c e)
          (alone next (set_region sh c (with_field (sh.regions c) f v)) (with_field r f v) n
          (rw (eq-eqb c c refl) (ap (λ (y : Region). with_field y f v) own))
          (only_region sh only _)
          (SharedStates.set_region-sane S sh sane c _
          (λ g. elim (tested (g == f)) [ inl h ↦ rw h keeps.0 | inr h ↦ rw h (sane.statics c g) ])
          (sane.objects (Class c)) (λ g a' s fin. absurd (not_done sh by s)) (λ k a' s. absurd (not_done sh by s)))
          has sound by free keeps.2 m q')
      | inr e ↦ (let clash : Stops Barred ≡ Leaves m = rw e at q in cc)
    ]
    alone (AskClass x next) sh r n own only sane has sound by free keeps m q =
        asked sh r own sane x next keeps.0 m (λ (p : Pool). class_at p x.number) (λ p s. shape-class p s x.number) _ q
        (λ p q'. alone (next _) sh r n own only sane has sound by free (keeps.1 _) m q')
    alone (LookInto x part next) sh r n own only sane has sound by free keeps m q =
        elim (tested (same_maker (Class c) x.maker)) [
          | inl e ↦
              let q' : quiet S.P (below S.I S.wave c) c r n (next (part_at part r.pool x.number)) ≡ Leaves m =
              rw e at q in
              let v : part_at part (pool_of sh x.maker) x.number ≡ part_at part r.pool x.number =
              ap (λ (y : Maker). part_at part (pool_of sh y) x.number) (sym (same_maker-true (Class c) x.maker e))
              ∙ ap (λ (y : Region). part_at part y.pool x.number) own in
              subst (λ (o : Option (List Value)). Calm sh.states m (run_row t (Class c) sh (next o))) (sym v)
              (alone (next (part_at part r.pool x.number)) sh r n own only sane has sound by free
              (keeps.1 _
              (subst (λ (y : Region). KnowsSlots (known S.I sh.states (Class c)) (part_at part y.pool x.number))
              own
              (part_at-holds (known S.I sh.states (Class c)) part (sh.regions c).pool x.number
              (sane.objects (Class c))))) m
              q')
          | inr e ↦ elim (tested (is_open part)) [
            | inl o ↦
                let hand = hand_value (pool_seen (below S.I S.wave c) c r x.maker)
                (λ p. if_fixed (fixed_at S.P part p x.number) (λ vs. quiet S.P (below S.I S.wave c) c r n (next vs)))
                (rw (e, o) at q) in
                let fixed = fixed_value (fixed_at S.P part hand.0 x.number) _ hand.2 in
                let there = fixed_there sh r sane only has x part hand.0 fixed.0 keeps.0 e hand.1 fixed.1 in
                looked sh x part next fixed.0 m there.0
                (alone (next (Some fixed.0)) sh r n own only sane has sound by free
                (keeps.1 (Some fixed.0) there.1) m fixed.2)
            | inr o ↦ (let clash : Stops (Refused ForeignObject) ≡ Leaves m = rw (e, o) at q in cc)
          ]
        ]
    alone (Change x i v next) sh r n own only sane has sound by free keeps m q =
        elim (tested (same_maker (Class c) x.maker)) [
          | inl e ↦
              let q' : quiet S.P (below S.I S.wave c) c (record r { pool = with_slot r.pool x.number i v }) n next
              ≡ Leaves m = rw e at q in
              subst
              (λ (y : Maker). Calm sh.states m
              (run_row t (Class c) (set_pool sh y (with_slot (pool_of sh y) x.number i v)) next))
              (same_maker-true (Class c) x.maker e)
              (alone next (set_pool sh (Class c) (with_slot (sh.regions c).pool x.number i v))
              (record r { pool = with_slot r.pool x.number i v }) n
              (rw (eq-eqb c c refl) (ap (λ (y : Region). record y { pool = with_slot y.pool x.number i v }) own))
              (only_pool sh only _)
              (SharedStates.set_pool-sane S sh sane (Class c) _
              (with_slot-holds (known S.I sh.states (Class c)) (sh.regions c).pool x.number i v
              (sane.objects (Class c)) keeps.1)
              (λ d same ad s k. absurd (not_done_as sh by d same s)))
              has sound by free keeps.2 m q')
          | inr e ↦ (let clash : Stops (Refused ForeignObject) ≡ Leaves m = rw e at q in cc)
        ]
    alone (Make class slots next) sh r n own only sane has sound by free keeps m q =
        subst (λ (k : ℕ). Calm sh.states m
        (run_row t (Class c) (set_pool sh (Class c) (with_new (sh.regions c).pool class slots))
        (next (record { maker = Class c; number = k }))))
        (sym (ap (λ (y : Region). y.pool.count) own))
        (alone (next (record { maker = Class c; number = r.pool.count }))
        (set_pool sh (Class c) (with_new (sh.regions c).pool class slots))
        (record r { pool = with_new r.pool class slots }) (n + elements_in class slots)
        (rw (eq-eqb c c refl) (ap (λ (y : Region). record y { pool = with_new y.pool class slots }) own))
        (only_pool sh only _)
        (SharedStates.set_pool-sane S sh sane (Class c) _
        (with_new-holds (known S.I sh.states (Class c)) (sh.regions c).pool class slots
        (sane.objects (Class c)) keeps.0)
        (λ d same ad s k. absurd (not_done_as sh by d same s)))
        has sound by free (keeps.1 _ (own_known sh.states r.pool.count)) m q)
    alone (UseMonitor x enter next) sh r n own only sane has sound by free keeps m q = cc
    alone (Print text next) sh r n own only sane has sound by free keeps m q = cc
