-- A region is no larger than what it cost.
use Rattle.std.proofs.Common.{◌≡◌, ℕ, ◌+◌, ◌≤◌, ◌==◌, true, inl, inr, List, Option, Some, None}
use Rattle.std.proofs.Common.{slice_set, option_map, refl, sym, subst, arith}
use Rattle.std.proofs.lemmas.List.{length-set}
use Rattle.std.proofs.lemmas.Option.{same_Some}
use Rattle.built_in.specs.declared.class_id.ClassId.{ClassId}
use Rattle.built_in.specs.declared.class_id.ClassId.TheVariants as classes
use Rattle.vm_state.specs.declared.value.Value.{Value}
use Rattle.vm_state.specs.declared.value.Maker.TheVariants.{Class}
use Rattle.vm_state.specs.declared.object.Object.{Object}
use Rattle.vm_state.specs.declared.frame.Frame.{Frame}
use Rattle.vm_state.specs.SharedState.{Pool, Region, same_maker, with_field, with_slot, with_new, object_with_slot}
use Rattle.vm_state.specs.SharedState.{class_at}
use Rattle.vm_state.proofs.ListLemmas.{tested}
use Rattle.semantics.specs.Rows.{Next, Raise, Halt, Row, Ends, UseClass, ReadStatic, WriteStatic, AskClass, LookInto}
use Rattle.semantics.specs.Rows.{Change, Make, UseMonitor, Print, part_at}
use Rattle.semantics.specs.Programs.{Program}
use Rattle.semantics.specs.Quiet.{Environment, is_final, pool_seen, QuietMove, Leaves, Stops, Refused, Barred}
use Rattle.semantics.specs.Quiet.{ForeignObject, is_open, fixed_at, elements_in, quiet}
use Rattle.semantics.specs.Alone.{RunsAlone, Over, Step}
use Rattle.program.specs.Tables.{Tables}
use Rattle.machine.specs.Linked.{program_of}
use Rattle.region_shape.specs.Shapes.{HasShape}
use Rattle.region_shape.specs.Sizes.{IsWithin}
use Rattle.region_shape.specs.Laws.{IsLinked, HaveShape}
use Rattle.region_shape.proofs.BranchesLemmas.{branch, at_hand_some}
use Rattle.semantics.proofs.BranchesLemmas.{fixed_value}
use Rattle.region_shape.proofs.QuietShapeLemmas.{step_keeps}

-- no array of more elements
abbrev AreSmall : ℕ → Pool → Type 0
AreSmall n p = (k : ℕ) (o : Object) → p.at k ≡ Some o → elements_in o.class o.slots ≤ n

set_elements : (class : ClassId) (vs : List Value) (i : ℕ) (v : Value)
    → elements_in class (slice_set vs i v) ≡ elements_in class vs
set_elements (classes.Given c) vs i v = refl
set_elements (classes.BuiltIn b) vs i v = refl
set_elements (classes.Array a) vs i v = length-set vs i v

slot_small : (n k i : ℕ) (v : Value) (p : Pool) → AreSmall n p → AreSmall n (with_slot p k i v)
slot_small n k i v p small j o at = elim (tested (j == k)) [
  | inl e ↦ here (p.at k) (λ x there. small k x there) (rw e at at)
  | inr e ↦ small j o (rw e at at)
]
  where
    here : (q : Option Object) → ((x : Object) → q ≡ Some x → elements_in x.class x.slots ≤ n)
        → option_map (object_with_slot i v) q ≡ Some o → elements_in o.class o.slots ≤ n
    here None all e = absurd cc
    here (Some x) all e =
        let same = same_Some _ o e in
        subst (λ (y : Object). elements_in y.class y.slots ≤ n) same
        (subst (λ (l : ℕ). l ≤ n) (sym (set_elements x.class x.slots i v)) (all x refl))

new_small : (n : ℕ) (class : ClassId) (slots : List Value) (p : Pool) → AreSmall n p
    → AreSmall (n + elements_in class slots) (with_new p class slots)
new_small n class slots p small j o at = elim (tested (j == p.count)) [
  | inl e ↦
      let same = same_Some _ o (rw e at at) in
      subst (λ (y : Object). elements_in y.class y.slots ≤ n + elements_in class slots) same (omega arith)
  | inr e ↦ omega (arith, small j o (rw e at at))
]

module _ (P : Program) (env : Environment) (c : ℕ) where
  -- what a quiet row leaves has no larger array than those before and those that it made
  arrays_small : (row : Row) (own : Region) (b n : ℕ) (m : QuietMove) → AreSmall (b + n) own.pool
      → quiet P env c own n row ≡ Leaves m → AreSmall (b + m.elements) m.region.pool
  arrays_small (Ends (Next move)) own b n m small q =
      let e : record { move = move; region = own; elements = n } ≡ m = cc in
      subst (λ (x : QuietMove). AreSmall (b + x.elements) x.region.pool) e small
  arrays_small (Ends (Raise x class)) own b n m small q = absurd cc
  arrays_small (Ends (Halt kind)) own b n m small q = absurd cc
  arrays_small (UseClass d next) own b n m small q = elim (branch (d == c) q) [
    | inl on ↦ arrays_small (next true) own b n m small on.1
    | inr other ↦ arrays_small (next true) own b n m small (at_hand_some (env d) other.1).2
  ]
  arrays_small (ReadStatic d f next) own b n m small q = elim (branch (d == c) q) [
    | inl on ↦ arrays_small (next (own.fields f)) own b n m small on.1
    | inr other ↦
        let at = at_hand_some (env d) other.1 in
        elim (branch (is_final P d f) at.2) [
          | inl final ↦ arrays_small (next (at.0.fields f)) own b n m small final.1
          | inr shut ↦ absurd (let clash : Stops Barred ≡ Leaves m = shut.1 in cc)
        ]
  ]
  arrays_small (WriteStatic d f v next) own b n m small q = elim (branch (d == c) q) [
    | inl on ↦ arrays_small next (with_field own f v) b n m small on.1
    | inr other ↦ absurd (let clash : Stops Barred ≡ Leaves m = other.1 in cc)
  ]
  arrays_small (AskClass x next) own b n m small q =
      let at = at_hand_some (pool_seen env c own x.maker) q in
      arrays_small (next (class_at at.0 x.number)) own b n m small at.2
  arrays_small (LookInto x part next) own b n m small q = elim (branch (same_maker (Class c) x.maker) q) [
    | inl on ↦ arrays_small (next (part_at part own.pool x.number)) own b n m small on.1
    | inr other ↦ elim (branch (is_open part) other.1) [
      | inl open_part ↦
          let at = at_hand_some (pool_seen env c own x.maker) open_part.1 in
          let fixed = fixed_value (fixed_at P part at.0 x.number) _ at.2 in
          arrays_small (next (Some fixed.0)) own b n m small fixed.2
      | inr shut ↦ absurd (let clash : Stops (Refused ForeignObject) ≡ Leaves m = shut.1 in cc)
    ]
  ]
  arrays_small (Change x i v next) own b n m small q = elim (branch (same_maker (Class c) x.maker) q) [
    | inl on ↦
        arrays_small next (record own { pool = with_slot own.pool x.number i v }) b n m
        (slot_small (b + n) x.number i v own.pool small) on.1
    | inr other ↦ absurd (let clash : Stops (Refused ForeignObject) ≡ Leaves m = other.1 in cc)
  ]
  arrays_small (Make class slots next) own b n m small q =
      arrays_small (next (record { maker = Class c; number = own.pool.count }))
      (record own { pool = with_new own.pool class slots }) b (n + elements_in class slots) m
      (λ k o at. omega (arith, new_small (b + n) class slots own.pool small k o at)) q
  arrays_small (UseMonitor x enter next) own b n m small q = absurd cc
  arrays_small (Print text next) own b n m small q = absurd cc

module _ (P : Tables) (linked : IsLinked P) (env : Environment) (shaped : HaveShape P env) (c : ℕ) where
  -- a run leaves as much more at most as it cost
  pub run_within : {fs : List Frame} {own last : Region} {n : ℕ} (b : ℕ) → RunsAlone (program_of P) env c fs own n last
      → HasShape P c own → IsWithin b own → IsWithin (b + n) last
  run_within b Over shape within =
      record { count = omega (arith, within.count); arrays = λ k o at. omega (arith, within.arrays k o at) }
  run_within b (Step {f = f} {own = own} {m = m} {n = n} q moves rest) shape within =
      let kept = step_keeps P linked env shaped c f own m q shape in
      let small =
      arrays_small (program_of P) env c ((program_of P).row f) own b 0 m
      (λ k o at. omega (arith, within.arrays k o at)) q in
      let next : IsWithin (b + (1 + m.elements)) m.region = record {
        count = omega (arith, kept.few, within.count);
        arrays = λ k o at. omega (arith, small k o at);
      } in
      let last = run_within (b + (1 + m.elements)) rest kept.shape next in
      record { count = omega (arith, last.count); arrays = λ k o at. omega (arith, last.arrays k o at) }
