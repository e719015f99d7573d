-- Which rows keep the names and ordinals of Enum objects, once they are set.
use Rattle.std.proofs.Common.{◌≡◌, ℕ, Bool, true, false, cond, inl, inr, List, Option, Some, None, ◌==◌, refl, sym, ap}
use Rattle.std.proofs.Common.{◌∙◌, subst, eqb-true, option_map, option_and_then}
use Rattle.vm_state.specs.declared.value.Value.{Value}
use Rattle.vm_state.specs.declared.value.Maker.{Maker}
use Rattle.vm_state.specs.declared.value.Maker.TheVariants.{Class, Thread}
use Rattle.vm_state.specs.declared.value.Name.{Name}
use Rattle.vm_state.specs.declared.object.Monitor.{Monitor}
use Rattle.vm_state.specs.declared.object.Object.{Object}
use Rattle.built_in.specs.declared.class_id.ClassId.{ClassId}
use Rattle.vm_state.specs.declared.ends.FaultKind.TheVariants.{Fault}
use Rattle.vm_state.specs.Statics.{usable}
use Rattle.vm_state.specs.SharedState.{Pool, SharedState, same_maker, pool_of, set_pool, set_region, with_field}
use Rattle.vm_state.specs.SharedState.{with_slot, with_monitor, object_with_monitor, monitor_of, with_new, with_print}
use Rattle.semantics.specs.Rows.{Outcome, Halt, Row, Ends, UseClass, ReadStatic, WriteStatic, Change, Make, UseMonitor}
use Rattle.semantics.specs.Rows.{Print, Named, Moved, Needs, Waits, lock_monitor, run_row}
use Rattle.semantics.specs.Programs.{Program}
use Rattle.semantics.specs.Quiet.{fixed_of, fixed_at}
use Rattle.semantics.specs.Lawful.{KeepsNamed, LeavesNamed}
use Rattle.vm_state.proofs.ListLemmas.{tested}
use Rattle.semantics.proofs.TestsLemmas.{same_maker-true}
use Rattle.semantics.proofs.UsabilitiesLemmas.{used}
use Rattle.semantics.proofs.LocksLemmas.{locked}

-- ---- pools of a changed state

pub pool_apart : (sh : SharedState) (a m : Maker) (p : Pool) → same_maker a m ≡ false
    → pool_of (set_pool sh a p) m ≡ pool_of sh m
pool_apart sh (Class c) (Class d) p e =
    ap (λ (b : Bool). (cond b (record (sh.regions d) { pool = p }) (sh.regions d)).pool) e
pool_apart sh (Class c) (Thread t) p e = refl
pool_apart sh (Thread t) (Class c) p e = refl
pool_apart sh (Thread t) (Thread u) p e = ap (λ (b : Bool). cond b p (sh.pools u)) e

pub pool_same : (sh : SharedState) (a m : Maker) (p : Pool) → same_maker a m ≡ true → pool_of (set_pool sh a p) m ≡ p
pool_same sh (Class c) (Class d) p e =
    ap (λ (b : Bool). (cond b (record (sh.regions d) { pool = p }) (sh.regions d)).pool) e
pool_same sh (Class c) (Thread t) p e = cc
pool_same sh (Thread t) (Class c) p e = cc
pool_same sh (Thread t) (Thread u) p e = ap (λ (b : Bool). cond b p (sh.pools u)) e

pool_written : (sh : SharedState) (c f : ℕ) (v : Value) (m : Maker)
    → pool_of (set_region sh c (with_field (sh.regions c) f v)) m ≡ pool_of sh m
pool_written sh c f v (Class d) = elim (tested (d == c)) [
  | inl e ↦
      ap (λ (b : Bool). (cond b (with_field (sh.regions c) f v) (sh.regions d)).pool) e
      ∙ ap (λ (k : ℕ). (sh.regions k).pool) (sym (eqb-true d c e))
  | inr e ↦ ap (λ (b : Bool). (cond b (with_field (sh.regions c) f v) (sh.regions d)).pool) e
]
pool_written sh c f v (Thread t) = refl

module _ (P : Program) (t : ℕ) (maker : Maker) where
  -- what a row leads to from a state keeps them
  abbrev pub Leaves : SharedState → Row → Type 0
  Leaves sh row =
      (outcome : Outcome) (new : SharedState) → run_row t maker sh row ≡ Moved outcome new → (m : Maker)
      → same_maker maker m ≡ false → KeepsNamed P (pool_of sh m) (pool_of new m)

  pub ended : (sh : SharedState) (o : Outcome) → Leaves sh (Ends o)
  ended sh o outcome new led m apart n vs is =
      let same : sh ≡ new = cc in subst (λ (s : SharedState). fixed_at P Named (pool_of s m) n ≡ Some vs) same is

  -- a state with the same objects of others
  pub after : (sh sh' : SharedState) (row : Row)
      → ((m : Maker) → same_maker maker m ≡ false → pool_of sh' m ≡ pool_of sh m)
      → Leaves sh' row → (outcome : Outcome) (new : SharedState) → run_row t maker sh' row ≡ Moved outcome new
      → (m : Maker) → same_maker maker m ≡ false → KeepsNamed P (pool_of sh m) (pool_of new m)
  after sh sh' row same on outcome new led m apart n vs is =
      on outcome new led m apart n vs
      (subst (λ (p : Pool). fixed_at P Named p n ≡ Some vs) (sym (same m apart)) is)

  -- ---- changes of slots

  -- a slot of another object changes, or of one whose name is not set, or another slot than the name and the ordinal
  pub slot_keeps : (sh : SharedState) (x : Name) (i : ℕ) (v : Value)
      → ((vs : List Value) → fixed_at P Named (pool_of sh x.maker) x.number ≡ Some vs
      → fixed_at P Named (with_slot (pool_of sh x.maker) x.number i v) x.number ≡ Some vs)
      → (m : Maker) → KeepsNamed P (pool_of sh m)
      (pool_of (set_pool sh x.maker (with_slot (pool_of sh x.maker) x.number i v)) m)
  slot_keeps sh x i v here m n vs is = elim (tested (same_maker x.maker m)) [
    | inl e ↦
        let same : x.maker ≡ m = same_maker-true x.maker m e in
        let was : fixed_at P Named (pool_of sh x.maker) n ≡ Some vs = rw same is in
        subst (λ (p : Pool). fixed_at P Named p n ≡ Some vs) (sym (pool_same sh x.maker m _ e))
        (elim (tested (n == x.number)) [
          | inl k ↦
              subst (λ (j : ℕ). fixed_at P Named (with_slot (pool_of sh x.maker) x.number i v) j ≡ Some vs)
              (sym (eqb-true n x.number k))
              (here vs (subst (λ (j : ℕ). fixed_at P Named (pool_of sh x.maker) j ≡ Some vs) (eqb-true n x.number k)
              was))
          | inr k ↦ rw k was
        ])
    | inr e ↦ subst (λ (p : Pool). fixed_at P Named p n ≡ Some vs) (sym (pool_apart sh x.maker m _ e)) is
  ]

  pub changed : (sh : SharedState) (x : Name) (i : ℕ) (v : Value) (next : Row)
      → ((vs : List Value) → fixed_at P Named (pool_of sh x.maker) x.number ≡ Some vs
      → fixed_at P Named (with_slot (pool_of sh x.maker) x.number i v) x.number ≡ Some vs)
      → Leaves (set_pool sh x.maker (with_slot (pool_of sh x.maker) x.number i v)) next
      → Leaves sh (Change x i v next)
  changed sh x i v next here on outcome new led m apart n vs is =
      on outcome new led m apart n vs (slot_keeps sh x i v here m n vs is)

-- ---- rows that keep them from each state

module _ (P : Program) where
  pub made : (class : ClassId) (slots : List Value) (next : Name → Row) → ((x : Name) → LeavesNamed P (next x))
      → LeavesNamed P (Make class slots next)
  made class slots next on t maker sh =
      after P t maker sh (set_pool sh maker (with_new (pool_of sh maker) class slots))
      (next (record { maker = maker; number = (pool_of sh maker).count }))
      (λ m apart. pool_apart sh maker m _ apart)
      (on (record { maker = maker; number = (pool_of sh maker).count }) t maker _)

  pub uses : (c : ℕ) (next : Bool → Row) → ((b : Bool) → LeavesNamed P (next b)) → LeavesNamed P (UseClass c next)
  uses c next on t maker sh outcome new led = elim (used (usable t (sh.states c))) [
    | inl r ↦ on true t maker sh outcome new (rw r at led)
    | inr (inl r) ↦ (let clash : Needs c ≡ Moved outcome new = rw r at led in absurd cc)
    | inr (inr (inl r)) ↦ (let clash : Waits ≡ Moved outcome new = rw r at led in absurd cc)
    | inr (inr (inr r)) ↦ on false t maker sh outcome new (rw r at led)
  ]

  pub reads : (c f : ℕ) (next : Value → Row) → ((v : Value) → LeavesNamed P (next v))
      → LeavesNamed P (ReadStatic c f next)
  reads c f next on t maker sh outcome new led = elim (used (usable t (sh.states c))) [
    | inl r ↦ on ((sh.regions c).fields f) t maker sh outcome new (rw r at led)
    | inr (inl r) ↦ (let clash : Needs c ≡ Moved outcome new = rw r at led in absurd cc)
    | inr (inr (inl r)) ↦ (let clash : Waits ≡ Moved outcome new = rw r at led in absurd cc)
    | inr (inr (inr r)) ↦ ended P t maker sh (Halt Fault) outcome new (rw r at led)
  ]

  pub writes : (c f : ℕ) (v : Value) (next : Row) → LeavesNamed P next → LeavesNamed P (WriteStatic c f v next)
  writes c f v next on t maker sh outcome new led = elim (used (usable t (sh.states c))) [
    | inl r ↦
        after P t maker sh (set_region sh c (with_field (sh.regions c) f v)) next
        (λ m apart. pool_written sh c f v m) (on t maker _) outcome new (rw r at led)
    | inr (inl r) ↦ (let clash : Needs c ≡ Moved outcome new = rw r at led in absurd cc)
    | inr (inr (inl r)) ↦ (let clash : Waits ≡ Moved outcome new = rw r at led in absurd cc)
    | inr (inr (inr r)) ↦ ended P t maker sh (Halt Fault) outcome new (rw r at led)
  ]

  monitor_keeps : (sh : SharedState) (x : Name) (w : Monitor) (m : Maker) → KeepsNamed P (pool_of sh m)
      (pool_of (set_pool sh x.maker (with_monitor (pool_of sh x.maker) x.number w)) m)
  monitor_keeps sh x w m n vs is = elim (tested (same_maker x.maker m)) [
    | inl e ↦
        let same : x.maker ≡ m = same_maker-true x.maker m e in
        let was : fixed_at P Named (pool_of sh x.maker) n ≡ Some vs = rw same is in
        subst (λ (p : Pool). fixed_at P Named p n ≡ Some vs) (sym (pool_same sh x.maker m _ e))
        (elim (tested (n == x.number)) [
          | inl k ↦
              let there : fixed_at P Named (pool_of sh x.maker) x.number ≡ Some vs =
              subst (λ (j : ℕ). fixed_at P Named (pool_of sh x.maker) j ≡ Some vs) (eqb-true n x.number k) was in
              rw k (same_part ((pool_of sh x.maker).at x.number) ∙ there)
          | inr k ↦ rw k was
        ])
    | inr e ↦ subst (λ (p : Pool). fixed_at P Named p n ≡ Some vs) (sym (pool_apart sh x.maker m _ e)) is
  ]
    where
      same_part : (o : Option Object) → option_and_then (fixed_of P Named) (option_map (object_with_monitor w) o)
          ≡ option_and_then (fixed_of P Named) o
      same_part None = refl
      same_part (Some o) = refl

  pub locks : (x : Name) (enter : Bool) (next : Bool → Row) → ((b : Bool) → LeavesNamed P (next b))
      → LeavesNamed P (UseMonitor x enter next)
  locks x enter next on t maker sh outcome new led =
      elim (locked (lock_monitor t enter (monitor_of ((pool_of sh x.maker).at x.number)))) [
        | inl b ↦ (let clash : Waits ≡ Moved outcome new = rw b at led in absurd cc)
        | inr p ↦ (λ m apart n vs is.
            on p.0 t maker (set_pool sh x.maker (with_monitor (pool_of sh x.maker) x.number p.1)) outcome new
            (rw p.2 at led) m apart n vs (monitor_keeps sh x p.1 m n vs is))
      ]

  pub prints : (text : List ℕ) (next : Row) → LeavesNamed P next → LeavesNamed P (Print text next)
  prints text next on t maker sh =
      after P t maker sh (with_print sh (record { thread = t; text = text })) next
      (λ m apart. same m) (on t maker _)
    where
      same : (m : Maker) → pool_of (with_print sh (record { thread = t; text = text })) m ≡ pool_of sh m
      same (Class c) = refl
      same (Thread u) = refl
