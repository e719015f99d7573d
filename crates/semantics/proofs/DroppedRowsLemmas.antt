-- One row where some objects are left out: it does the same, and makes up no name of such an object.
use Rattle.std.proofs.Common.{◌≡◌, ℕ, ◌+◌, ◌≤◌, Bool, true, inl, inr, List, [], ◌∷◌, ◌++◌, Option, ◌==◌, refl, ap, ◌∙◌}
use Rattle.std.proofs.Common.{sym, subst, false, option_map, option_and_then, eqb-true, arith, if◌then◌else◌}
use Rattle.vm_state.specs.declared.value.Value.{Value}
use Rattle.vm_state.specs.declared.value.Maker.{Maker}
use Rattle.vm_state.specs.declared.value.Maker.TheVariants.{Class, Thread}
use Rattle.vm_state.specs.declared.value.Name.{Name}
use Rattle.built_in.specs.declared.class_id.ClassId.{ClassId}
use Rattle.vm_state.specs.declared.classes.ClassState.{ClassState}
use Rattle.vm_state.specs.declared.ends.FaultKind.TheVariants.{Fault}
use Rattle.vm_state.specs.declared.object.Object.{Object}
use Rattle.vm_state.specs.declared.object.Monitor.{Monitor}
use Rattle.vm_state.specs.declared.object.Monitor.TheVariants.{Free}
use Rattle.vm_state.specs.Output.{Print as OnePrint}
use Rattle.vm_state.specs.Statics.{usable}
use Rattle.vm_state.specs.SharedState.{Pool, Region, SharedState, pool_of, set_pool, set_region, set_state, same_maker}
use Rattle.vm_state.specs.SharedState.{with_object, object_with_slot, with_slot, object_with_monitor, with_monitor}
use Rattle.vm_state.specs.SharedState.{monitor_of, with_new, with_field, with_print, class_at, slots_at}
use Rattle.semantics.specs.Rows.{Outcome, Halt, Row, Ends, UseClass, ReadStatic, WriteStatic, AskClass, LookInto}
use Rattle.semantics.specs.Rows.{Change, Make, UseMonitor, Print, part_of, part_at}
use Rattle.semantics.specs.Rows.{Result, Moved, Needs, Waits, lock_monitor, run_row}
use Rattle.semantics.specs.Programs.{Program}
use Rattle.semantics.specs.Lawful.{Names, Knows, KnowsAll, KnowsSlots, KnowsOutcome, Fits}
use Rattle.semantics.specs.Drops.{IsDroppedPool, IsDroppedState}
use Rattle.vm_state.proofs.ListLemmas.{tested}
use Rattle.semantics.proofs.TestsLemmas.{same_maker-true}
use Rattle.semantics.proofs.UsabilitiesLemmas.{used}
use Rattle.semantics.proofs.LocksLemmas.{locked}
use Rattle.semantics.proofs.PoolsLemmas.{slots_of, slot-has, monitor-has, part-has}

module _ (kept : Names) where
  -- ---- the objects of a maker change

  module _ (m : Maker) (p q : Pool) (d : IsDroppedPool kept m p q) where
    put : (n : ℕ) (o r : Option Object) → r ≡ o → KnowsSlots kept (slots_of o)
        → IsDroppedPool kept m (with_object p n o) (with_object q n r)
    put n o r same k = record {
      count = d.count;
      objects = λ i here. elim (tested (i == n)) [
        | inl e ↦ rw e same
        | inr e ↦ rw e (d.objects i here)
      ];
      slots = λ i here. elim (tested (i == n)) [
        | inl e ↦ rw e k
        | inr e ↦ rw e (d.slots i here)
      ];
      fresh = d.fresh;
    }

    pub slot_dropped : (n i : ℕ) (v : Value) → kept (record { maker = m; number = n }) ≡ true → Knows kept v
        → IsDroppedPool kept m (with_slot p n i v) (with_slot q n i v)
    slot_dropped n i v here kv =
        put n _ _ (ap (option_map (object_with_slot i v)) (d.objects n here))
        (slot-has (Knows kept) i v kv (p.at n) (d.slots n here))

    pub monitor_dropped : (n : ℕ) (l : Monitor) → kept (record { maker = m; number = n }) ≡ true
        → IsDroppedPool kept m (with_monitor p n l) (with_monitor q n l)
    monitor_dropped n l here =
        put n _ _ (ap (option_map (object_with_monitor l)) (d.objects n here))
        (monitor-has (Knows kept) l (p.at n) (d.slots n here))

    pub new_dropped : (class : ClassId) (slots : List Value) → KnowsAll kept slots
        → IsDroppedPool kept m (with_new p class slots) (with_new q class slots)
    new_dropped class slots ks = record {
      count = ap (λ (n : ℕ). n + 1) d.count;
      objects = λ i here. elim (tested (i == p.count)) [
        | inl e ↦ rw (d.count, e) refl
        | inr e ↦ rw (d.count, e) (d.objects i here)
      ];
      slots = λ i here. elim (tested (i == p.count)) [
        | inl e ↦ rw e ks
        | inr e ↦ rw e (d.slots i here)
      ];
      fresh = λ i past. d.fresh i (omega (arith, past));
    }

  -- ---- all that is shared changes

  module _ (sh sv : SharedState) (d : IsDroppedState kept sh sv) where
    pub pool_dropped : (m : Maker) → IsDroppedPool kept m (pool_of sh m) (pool_of sv m)
    pool_dropped (Class c) = d.regions c
    pool_dropped (Thread t) = d.pools t

    pub set_pool-dropped : (m : Maker) (p q : Pool) → IsDroppedPool kept m p q
        → IsDroppedState kept (set_pool sh m p) (set_pool sv m q)
    set_pool-dropped m p q is = record {
      states = d.states;
      fields = λ c f. elim (tested (same_maker m (Class c))) [
        | inl e ↦ rw e (d.fields c f)
        | inr e ↦ rw e (d.fields c f)
      ];
      statics = λ c f. elim (tested (same_maker m (Class c))) [
        | inl e ↦ rw e (d.statics c f)
        | inr e ↦ rw e (d.statics c f)
      ];
      regions = λ c. elim (tested (same_maker m (Class c))) [
        | inl e ↦ rw e (subst (λ (k : Maker). IsDroppedPool kept k p q) (same_maker-true m (Class c) e) is)
        | inr e ↦ rw e (d.regions c)
      ];
      pools = λ t. elim (tested (same_maker m (Thread t))) [
        | inl e ↦ rw e (subst (λ (k : Maker). IsDroppedPool kept k p q) (same_maker-true m (Thread t) e) is)
        | inr e ↦ rw e (d.pools t)
      ];
      printed = d.printed;
    }

    pub set_fields-dropped : (c : ℕ) (g h : ℕ → Value) → ((f : ℕ) → h f ≡ g f) → ((f : ℕ) → Knows kept (g f))
        → IsDroppedState kept (set_region sh c (record (sh.regions c) { fields = g }))
        (set_region sv c (record (sv.regions c) { fields = h }))
    set_fields-dropped c g h same known = record {
      states = d.states;
      fields = λ e f. elim (tested (e == c)) [
        | inl i ↦ rw i (same f)
        | inr i ↦ rw i (d.fields e f)
      ];
      statics = λ e f. elim (tested (e == c)) [
        | inl i ↦ rw i (known f)
        | inr i ↦ rw i (d.statics e f)
      ];
      regions = λ e. elim (tested (e == c)) [
        | inl i ↦ rw i (subst (λ (k : ℕ). IsDroppedPool kept (Class k) (sh.regions c).pool (sv.regions c).pool)
            (sym (eqb-true e c i)) (d.regions c))
        | inr i ↦ rw i (d.regions e)
      ];
      pools = d.pools;
      printed = d.printed;
    }

    pub set_state-dropped : (c : ℕ) (s : ClassState) → IsDroppedState kept (set_state sh c s) (set_state sv c s)
    set_state-dropped c s = record {
      states = λ e. elim (tested (e == c)) [
        | inl i ↦ rw i refl
        | inr i ↦ rw i (d.states e)
      ];
      fields = d.fields;
      statics = d.statics;
      regions = d.regions;
      pools = d.pools;
      printed = d.printed;
    }

    with_print-dropped : (line : OnePrint) → IsDroppedState kept (with_print sh line) (with_print sv line)
    with_print-dropped line = record {
      states = d.states;
      fields = d.fields;
      statics = d.statics;
      regions = d.regions;
      pools = d.pools;
      printed = ap (λ (ls : List OnePrint). ls ++ line ∷ []) d.printed;
    }

  -- ---- the row

  -- the same outcome, of kept names, and again the one state without those objects
  pub record MovesAlike (outcome : Outcome) (sh : SharedState) (r : Result) : Type 0 where
    pub other : SharedState
    pub same : r ≡ Moved outcome other
    pub dropped : IsDroppedState kept sh other
    pub known : KnowsOutcome kept outcome

  abbrev pub IsAlike : Result → Result → Type 0
  IsAlike (Moved outcome new) r = MovesAlike outcome new r
  IsAlike (Needs c) r = r ≡ Needs c
  IsAlike Waits r = r ≡ Waits

  module _ (P : Program) (own : ℕ → Bool) (t : ℕ) (maker : Maker) where
    halted : (sh sv : SharedState) → IsDroppedState kept sh sv
        → IsAlike (Moved (Halt Fault) sh) (Moved (Halt Fault) sv)
    halted sh sv d = record { other = sv; same = refl; dropped = d; known = tt }

    pub alike : (row : Row) (sh sv : SharedState) → IsDroppedState kept sh sv → Fits P kept own row
        → IsAlike (run_row t maker sh row) (run_row t maker sv row)
    alike (Ends outcome) sh sv d fit = record { other = sv; same = refl; dropped = d; known = fit.0 }
    alike (UseClass c next) sh sv d fit =
        let same = ap (usable t) (d.states c) in
        elim (used (usable t (sh.states c))) [
          | inl u ↦ rw (u, same ∙ u) (alike (next true) sh sv d (fit true))
          | inr (inl u) ↦ rw (u, same ∙ u) refl
          | inr (inr (inl u)) ↦ rw (u, same ∙ u) refl
          | inr (inr (inr u)) ↦ rw (u, same ∙ u) (alike (next false) sh sv d (fit false))
        ]
    alike (ReadStatic c f next) sh sv d fit =
        let same = ap (usable t) (d.states c) in
        elim (used (usable t (sh.states c))) [
          | inl u ↦ rw (u, same ∙ u, d.fields c f) (alike (next _) sh sv d (fit _ (d.statics c f)))
          | inr (inl u) ↦ rw (u, same ∙ u) refl
          | inr (inr (inl u)) ↦ rw (u, same ∙ u) refl
          | inr (inr (inr u)) ↦ rw (u, same ∙ u) (halted sh sv d)
        ]
    alike (WriteStatic c f v next) sh sv d fit =
        let same = ap (usable t) (d.states c) in
        elim (used (usable t (sh.states c))) [
          | inl u ↦
              rw (u, same ∙ u)
              (alike next _ _
              (set_fields-dropped sh sv d c _ _
              (λ g. elim (tested (g == f)) [ inl e ↦ rw e refl | inr e ↦ rw e (d.fields c g) ])
              (λ g. elim (tested (g == f)) [ inl e ↦ rw e fit.0 | inr e ↦ rw e (d.statics c g) ])) fit.2)
          | inr (inl u) ↦ rw (u, same ∙ u) refl
          | inr (inr (inl u)) ↦ rw (u, same ∙ u) refl
          | inr (inr (inr u)) ↦ rw (u, same ∙ u) (halted sh sv d)
        ]
    alike (AskClass x next) sh sv d fit =
        subst
        (λ (o : Option Object). IsAlike (run_row t maker sh (next (class_at (pool_of sh x.maker) x.number)))
        (run_row t maker sv (next (option_map (λ (o : Object). o.class) o))))
        (sym ((pool_dropped sh sv d x.maker).objects x.number fit.0))
        (alike (next _) sh sv d (fit.1 _))
    alike (LookInto x part next) sh sv d fit =
        subst
        (λ (o : Option Object). IsAlike (run_row t maker sh (next (part_at part (pool_of sh x.maker) x.number)))
        (run_row t maker sv (next (option_and_then (part_of part) (slots_of o)))))
        (sym ((pool_dropped sh sv d x.maker).objects x.number fit.0))
        (alike (next _) sh sv d
        (fit.1 _ (part-has (Knows kept) (λ n. tt) part _ ((pool_dropped sh sv d x.maker).slots x.number fit.0))))
    alike (Change x i v next) sh sv d fit =
        alike next _ _
        (set_pool-dropped sh sv d x.maker _ _
        (slot_dropped x.maker _ _ (pool_dropped sh sv d x.maker) x.number i v fit.0 fit.1)) fit.2
    alike (Make class slots next) sh sv d fit =
        let pool = pool_dropped sh sv d maker in
        subst
        (λ (n : ℕ). IsAlike
        (run_row t maker (set_pool sh maker (with_new (pool_of sh maker) class slots))
        (next (record { maker = maker; number = (pool_of sh maker).count })))
        (run_row t maker (set_pool sv maker (with_new (pool_of sv maker) class slots))
        (next (record { maker = maker; number = n }))))
        (sym pool.count)
        (alike (next (record { maker = maker; number = (pool_of sh maker).count })) _ _
        (set_pool-dropped sh sv d maker _ _ (new_dropped maker _ _ pool class slots fit.0))
        (fit.1 _ (pool.fresh (pool_of sh maker).count (omega arith))))
    alike (UseMonitor x enter next) sh sv d fit =
        let pool = pool_dropped sh sv d x.maker in
        let same : lock_monitor t enter (monitor_of ((pool_of sv x.maker).at x.number)) ≡ lock_monitor t enter
        (monitor_of ((pool_of sh x.maker).at x.number)) =
        ap (λ (o : Option Object). lock_monitor t enter (monitor_of o)) (pool.objects x.number fit.0) in
        elim (locked (lock_monitor t enter (monitor_of ((pool_of sh x.maker).at x.number)))) [
          | inl b ↦ rw (b, same ∙ b) refl
          | inr p ↦
              rw (p.2, same ∙ p.2)
              (alike (next p.0) _ _
              (set_pool-dropped sh sv d x.maker _ _ (monitor_dropped x.maker _ _ pool x.number p.1 fit.0)) (fit.1 p.0))
        ]
    alike (Print text next) sh sv d fit =
        alike next _ _ (with_print-dropped sh sv d (record { thread = t; text = text })) fit
