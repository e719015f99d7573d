-- What quiet instructions leave: c's objects are never fewer, and all are held; and what holds of the values that they
-- are given holds of those that they leave.
use Rattle.std.proofs.Common.{◌≡◌, ℕ, ℤ, ◌+◌, ◌<◌, ◌≤◌, ◌==◌, true, false, inl, inr, List, Some, subst, arith, sym, ◌∙◌}
use Rattle.std.proofs.Common.{ap, refl, Option, None, is_some, option_map, eqb-true, ne_eqb}
use Rattle.std.specs.List.{AllByRecursion}
use Rattle.std.proofs.lemmas.Bool.{eqb-false}
use Rattle.built_in.specs.declared.class_id.ClassId.{ClassId}
use Rattle.vm_state.specs.declared.value.Value.{Value}
use Rattle.vm_state.specs.declared.value.Value.TheVariants.{Int}
use Rattle.vm_state.specs.declared.value.Name.{Name}
use Rattle.vm_state.specs.declared.value.Maker.{Maker}
use Rattle.vm_state.specs.declared.value.Maker.TheVariants.{Class}
use Rattle.vm_state.specs.SharedState.{Pool, Region, same_maker, with_field, with_slot, with_new, class_at}
use Rattle.vm_state.specs.SharedState.{object_with_slot}
use Rattle.vm_state.specs.declared.object.Object.{Object}
use Rattle.vm_state.proofs.ListLemmas.{tested}
use Rattle.semantics.specs.Rows.{Next, Raise, Halt, Row, Ends, UseClass, ReadStatic}
use Rattle.semantics.specs.Rows.{WriteStatic, AskClass, LookInto, Change, Make, UseMonitor, Print, Part, part_at}
use Rattle.semantics.specs.Programs.{Program}
use Rattle.semantics.specs.Quiet.{Environment, is_final, pool_seen, QuietMove, Leaves, Stops, Refused, Barred}
use Rattle.semantics.specs.Quiet.{ForeignObject, is_open, fixed_at, elements_in, quiet}
use Rattle.semantics.specs.Lawful.{HoldsOfSlots, HoldsOfMove, FitsBy}
use Rattle.semantics.proofs.PoolsLemmas.{HoldsOfPool, with_slot-has, with_new-has, part_at-has, fixed-part}
use Rattle.semantics.proofs.WithinNamesLemmas.{pool_of_other}
use Rattle.region_shape.proofs.BranchesLemmas.{branch, at_hand_some}
use Rattle.semantics.proofs.BranchesLemmas.{fixed_value}
use Rattle.region_shape.specs.Counts.{HoldsAll}

-- ---- all objects are held

slot_all : (p : Pool) (n i : ℕ) (v : Value) → HoldsAll p → HoldsAll (with_slot p n i v)
slot_all p n i v all = record {
  held = λ k small. elim (tested (k == n)) [
    | inl e ↦
        rw e (kept (p.at n) (subst (λ (j : ℕ). is_some (p.at j) ≡ true) (eqb-true k n e) (all.held k small)))
    | inr e ↦ rw e (all.held k small)
  ];
  no_more = λ k past. elim (tested (k == n)) [
    | inl e ↦
        rw e (ap (option_map (object_with_slot i v))
        (subst (λ (j : ℕ). p.at j ≡ None) (eqb-true k n e) (all.no_more k past)))
    | inr e ↦ rw e (all.no_more k past)
  ];
}
  where
    kept : (o : Option Object) → is_some o ≡ true → is_some (option_map (object_with_slot i v) o) ≡ true
    kept None e = e
    kept (Some x) e = refl

new_all : (p : Pool) (class : ClassId) (slots : List Value) → HoldsAll p → HoldsAll (with_new p class slots)
new_all p class slots all = record {
  held = λ k small. elim (tested (k == p.count)) [
    | inl e ↦ rw e refl
    | inr e ↦ rw e (all.held k (omega (arith, small, eqb-false k p.count e)))
  ];
  no_more = λ k past.
      rw (ne_eqb k p.count (λ same. omega (arith, past, same))) (all.no_more k (omega (arith, past)));
}

-- ---- rows

module _ (P : Program) (env : Environment) (c : ℕ) where
  -- c's objects are never fewer
  pub grows : (row : Row) (own : Region) (n : ℕ) (m : QuietMove) → quiet P env c own n row ≡ Leaves m
      → own.pool.count ≤ m.region.pool.count
  grows (Ends (Next move)) own n m q =
      let e : record { move = move; region = own; elements = n } ≡ m = cc in
      subst (λ (x : QuietMove). own.pool.count ≤ x.region.pool.count) e (omega arith)
  grows (Ends (Raise x class)) own n m q = absurd cc
  grows (Ends (Halt kind)) own n m q = absurd cc
  grows (UseClass d next) own n m q = elim (branch (d == c) q) [
    | inl on ↦ grows (next true) own n m on.1
    | inr other ↦ grows (next true) own n m (at_hand_some (env d) other.1).2
  ]
  grows (ReadStatic d f next) own n m q = elim (branch (d == c) q) [
    | inl on ↦ grows (next (own.fields f)) own n m on.1
    | inr other ↦
        let at = at_hand_some (env d) other.1 in
        elim (branch (is_final P d f) at.2) [
          | inl final ↦ grows (next (at.0.fields f)) own n m final.1
          | inr shut ↦ absurd (let clash : Stops Barred ≡ Leaves m = shut.1 in cc)
        ]
  ]
  grows (WriteStatic d f v next) own n m q = elim (branch (d == c) q) [
    | inl on ↦ grows next (with_field own f v) n m on.1
    | inr other ↦ absurd (let clash : Stops Barred ≡ Leaves m = other.1 in cc)
  ]
  grows (AskClass x next) own n m q =
      let at = at_hand_some (pool_seen env c own x.maker) q in grows (next (class_at at.0 x.number)) own n m at.2
  grows (LookInto x part next) own n m q = elim (branch (same_maker (Class c) x.maker) q) [
    | inl on ↦ grows (next (part_at part own.pool x.number)) own n m on.1
    | inr other ↦ elim (branch (is_open part) other.1) [
      | inl open_part ↦
          let at = at_hand_some (pool_seen env c own x.maker) open_part.1 in
          let fixed = fixed_value (fixed_at P part at.0 x.number) _ at.2 in
          grows (next (Some fixed.0)) own n m fixed.2
      | inr shut ↦ absurd (let clash : Stops (Refused ForeignObject) ≡ Leaves m = shut.1 in cc)
    ]
  ]
  grows (Change x i v next) own n m q = elim (branch (same_maker (Class c) x.maker) q) [
    | inl on ↦ grows next (record own { pool = with_slot own.pool x.number i v }) n m on.1
    | inr other ↦ absurd (let clash : Stops (Refused ForeignObject) ≡ Leaves m = other.1 in cc)
  ]
  grows (Make class slots next) own n m q =
      let more : own.pool.count + 1 ≤ m.region.pool.count =
      grows (next (record { maker = Class c; number = own.pool.count }))
      (record own { pool = with_new own.pool class slots }) (n + elements_in class slots) m q in
      omega (arith, more)
  grows (UseMonitor x enter next) own n m q = absurd cc
  grows (Print text next) own n m q = absurd cc

  -- all of c's objects are held
  pub keeps_all : (row : Row) (own : Region) (n : ℕ) (m : QuietMove) → quiet P env c own n row ≡ Leaves m
      → HoldsAll own.pool → HoldsAll m.region.pool
  keeps_all (Ends (Next move)) own n m q all =
      let e : record { move = move; region = own; elements = n } ≡ m = cc in
      subst (λ (x : QuietMove). HoldsAll x.region.pool) e all
  keeps_all (Ends (Raise x class)) own n m q all = absurd cc
  keeps_all (Ends (Halt kind)) own n m q all = absurd cc
  keeps_all (UseClass d next) own n m q all = elim (branch (d == c) q) [
    | inl on ↦ keeps_all (next true) own n m on.1 all
    | inr other ↦ keeps_all (next true) own n m (at_hand_some (env d) other.1).2 all
  ]
  keeps_all (ReadStatic d f next) own n m q all = elim (branch (d == c) q) [
    | inl on ↦ keeps_all (next (own.fields f)) own n m on.1 all
    | inr other ↦
        let at = at_hand_some (env d) other.1 in
        elim (branch (is_final P d f) at.2) [
          | inl final ↦ keeps_all (next (at.0.fields f)) own n m final.1 all
          | inr shut ↦ absurd (let clash : Stops Barred ≡ Leaves m = shut.1 in cc)
        ]
  ]
  keeps_all (WriteStatic d f v next) own n m q all = elim (branch (d == c) q) [
    | inl on ↦ keeps_all next (with_field own f v) n m on.1 all
    | inr other ↦ absurd (let clash : Stops Barred ≡ Leaves m = other.1 in cc)
  ]
  keeps_all (AskClass x next) own n m q all =
      let at = at_hand_some (pool_seen env c own x.maker) q in
      keeps_all (next (class_at at.0 x.number)) own n m at.2 all
  keeps_all (LookInto x part next) own n m q all = elim (branch (same_maker (Class c) x.maker) q) [
    | inl on ↦ keeps_all (next (part_at part own.pool x.number)) own n m on.1 all
    | inr other ↦ elim (branch (is_open part) other.1) [
      | inl open_part ↦
          let at = at_hand_some (pool_seen env c own x.maker) open_part.1 in
          let fixed = fixed_value (fixed_at P part at.0 x.number) _ at.2 in
          keeps_all (next (Some fixed.0)) own n m fixed.2 all
      | inr shut ↦ absurd (let clash : Stops (Refused ForeignObject) ≡ Leaves m = shut.1 in cc)
    ]
  ]
  keeps_all (Change x i v next) own n m q all = elim (branch (same_maker (Class c) x.maker) q) [
    | inl on ↦
        keeps_all next (record own { pool = with_slot own.pool x.number i v }) n m on.1
        (slot_all own.pool x.number i v all)
    | inr other ↦ absurd (let clash : Stops (Refused ForeignObject) ≡ Leaves m = other.1 in cc)
  ]
  keeps_all (Make class slots next) own n m q all =
      keeps_all (next (record { maker = Class c; number = own.pool.count }))
      (record own { pool = with_new own.pool class slots }) (n + elements_in class slots) m q
      (new_all own.pool class slots all)
  keeps_all (UseMonitor x enter next) own n m q all = absurd cc
  keeps_all (Print text next) own n m q all = absurd cc

  -- it holds of all values that are left
  pub record HoldsAfter (Q : Value → Type 0) (m : QuietMove) : Type 0 where
    pub statics : (k : ℕ) → Q (m.region.fields k)
    pub slots : HoldsOfPool Q m.region.pool
    pub move : HoldsOfMove Q m.move

  -- where it holds of ints, of the finals and the objects at hand, and of c's own names below a count
  module _ (N : Name → Type 0) (Q : Value → Type 0) (ints : (n : ℤ) → Q (Int n)) (last : ℕ)
      (finals : (d : ℕ) (r : Region) → env d ≡ Some r → (f : ℕ) → Q (r.fields f))
      (pools : (d : ℕ) (r : Region) → env d ≡ Some r → HoldsOfPool Q r.pool)
      (fresh : (k : ℕ) → k < last → N (record { maker = Class c; number = k })) where
    -- what is fixed of the objects at hand
    fixed_has : (own : Region) (maker : Maker) (p : Pool) → same_maker (Class c) maker ≡ false
        → pool_seen env c own maker ≡ Some p → (part : Part) (k : ℕ) (vs : List Value)
        → fixed_at P part p k ≡ Some vs → AllByRecursion Q vs
    fixed_has own maker p other is part k vs fixed =
        let found = pool_of_other env c own maker p other is in
        let all : HoldsOfPool Q p = subst (HoldsOfPool Q) found.3 (pools found.0 found.1 found.2) in
        subst (HoldsOfSlots Q) (fixed-part P part p k vs fixed) (part_at-has Q ints part p k all)

    written : (own : Region) (f : ℕ) (v : Value) → ((k : ℕ) → Q (own.fields k)) → Q v
        → (k : ℕ) → Q ((with_field own f v).fields k)
    written own f v h hv k = elim (tested (k == f)) [ inl e ↦ rw e hv | inr e ↦ rw e (h k) ]

    pub keeps_values : (row : Row) (own : Region) (n : ℕ) (m : QuietMove) → FitsBy P N Q (λ d. true) row
        → ((k : ℕ) → Q (own.fields k)) → HoldsOfPool Q own.pool → m.region.pool.count ≤ last
        → quiet P env c own n row ≡ Leaves m → HoldsAfter Q m
    keeps_values (Ends (Next move)) own n m fits statics slots few q =
        let e : record { move = move; region = own; elements = n } ≡ m = cc in
        subst (HoldsAfter Q) e (record { statics = statics; slots = slots; move = fits.0 })
    keeps_values (Ends (Raise x class)) own n m fits statics slots few q = absurd cc
    keeps_values (Ends (Halt kind)) own n m fits statics slots few q = absurd cc
    keeps_values (UseClass d next) own n m fits statics slots few q = elim (branch (d == c) q) [
      | inl on ↦ keeps_values (next true) own n m (fits true) statics slots few on.1
      | inr other ↦ keeps_values (next true) own n m (fits true) statics slots few (at_hand_some (env d) other.1).2
    ]
    keeps_values (ReadStatic d f next) own n m fits statics slots few q = elim (branch (d == c) q) [
      | inl on ↦ keeps_values (next (own.fields f)) own n m (fits (own.fields f) (statics f)) statics slots few on.1
      | inr other ↦
          let at = at_hand_some (env d) other.1 in
          elim (branch (is_final P d f) at.2) [
            | inl final ↦
                keeps_values (next (at.0.fields f)) own n m (fits (at.0.fields f) (finals d at.0 at.1 f)) statics slots
                few final.1
            | inr shut ↦ absurd (let clash : Stops Barred ≡ Leaves m = shut.1 in cc)
          ]
    ]
    keeps_values (WriteStatic d f v next) own n m fits statics slots few q = elim (branch (d == c) q) [
      | inl on ↦
          keeps_values next (with_field own f v) n m fits.2 (written own f v statics fits.0) slots few on.1
      | inr other ↦ absurd (let clash : Stops Barred ≡ Leaves m = other.1 in cc)
    ]
    keeps_values (AskClass x next) own n m fits statics slots few q =
        let at = at_hand_some (pool_seen env c own x.maker) q in
        keeps_values (next (class_at at.0 x.number)) own n m (fits.1 (class_at at.0 x.number)) statics slots few at.2
    keeps_values (LookInto x part next) own n m fits statics slots few q =
        elim (branch (same_maker (Class c) x.maker) q) [
          | inl on ↦
              keeps_values (next (part_at part own.pool x.number)) own n m
              (fits.1 (part_at part own.pool x.number) (part_at-has Q ints part own.pool x.number slots)) statics slots
              few on.1
          | inr other ↦ elim (branch (is_open part) other.1) [
            | inl open_part ↦
                let at = at_hand_some (pool_seen env c own x.maker) open_part.1 in
                let fixed = fixed_value (fixed_at P part at.0 x.number) _ at.2 in
                keeps_values (next (Some fixed.0)) own n m
                (fits.1 (Some fixed.0)
                (fixed_has own x.maker at.0 other.0 at.1 part x.number fixed.0 fixed.1)) statics slots few fixed.2
            | inr shut ↦ absurd (let clash : Stops (Refused ForeignObject) ≡ Leaves m = shut.1 in cc)
          ]
        ]
    keeps_values (Change x i v next) own n m fits statics slots few q = elim (branch (same_maker (Class c) x.maker) q) [
      | inl on ↦
          keeps_values next (record own { pool = with_slot own.pool x.number i v }) n m fits.2 statics
          (with_slot-has Q own.pool x.number i v slots fits.1) few on.1
      | inr other ↦ absurd (let clash : Stops (Refused ForeignObject) ≡ Leaves m = other.1 in cc)
    ]
    keeps_values (Make class slots next) own n m fits statics held few q =
        let x : Name = record { maker = Class c; number = own.pool.count } in
        let new : Region = record own { pool = with_new own.pool class slots } in
        let more : own.pool.count + 1 ≤ m.region.pool.count = grows (next x) new (n + elements_in class slots) m q in
        keeps_values (next x) new (n + elements_in class slots) m
        (fits.1 x (fresh own.pool.count (omega (arith, more, few)))) statics
        (with_new-has Q own.pool class slots held fits.0) few q
    keeps_values (UseMonitor x enter next) own n m fits statics slots few q = absurd cc
    keeps_values (Print text next) own n m fits statics slots few q = absurd cc
