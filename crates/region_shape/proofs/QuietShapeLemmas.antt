-- What quiet instructions leave has shape.
use Rattle.std.proofs.Common.{◌≡◌, ℕ, zero, suc, ◌+◌, ◌≤◌, ◌==◌, Bool, true, false, cond, inl, inr, List, []}
use Rattle.std.proofs.Common.{◌∷◌, Option, Some, None, slice_get, slice_set, refl, sym, ap, ◌∙◌, subst, arith}
use Rattle.std.proofs.Common.{eqb-true, eq-eqb, option_map, option_and_then, ne_eqb}
use Rattle.std.proofs.lemmas.Option.{same_Some}
use Rattle.std.specs.List.{AllByRecursion, AllZip}
use Rattle.bytecode.specs.declared.operand.ElementKind.{ElementKind}
use Rattle.built_in.specs.declared.class_id.ClassId.{ClassId}
use Rattle.built_in.specs.declared.class_id.ClassId.TheVariants as classes
use Rattle.vm_state.specs.declared.value.Value.{Value}
use Rattle.vm_state.specs.declared.value.Name.{Name}
use Rattle.vm_state.specs.declared.value.Maker.{Maker}
use Rattle.vm_state.specs.declared.value.Maker.TheVariants.{Class, Thread}
use Rattle.vm_state.specs.declared.object.Object.{Object}
use Rattle.vm_state.specs.declared.frame.Frame.{Frame}
use Rattle.vm_state.specs.SharedState.{Pool, Region, same_maker, with_field, with_slot, with_new, object_with_slot}
use Rattle.vm_state.specs.SharedState.{class_at}
use Rattle.vm_state.proofs.ListLemmas.{tested}
use Rattle.semantics.specs.Rows.{Part, Slots, Length, Named, Next, Raise, Halt, Row, Ends, UseClass, ReadStatic}
use Rattle.semantics.specs.Rows.{WriteStatic, AskClass, LookInto, Change, Make, UseMonitor, Print, part_at, part_of}
use Rattle.semantics.specs.Quiet.{Environment, is_final, pool_seen, QuietMove, Leaves, Stops, Refused, Barred}
use Rattle.semantics.specs.Quiet.{ForeignObject, is_open, fixed_at, elements_in, quiet, quiet_step}
use Rattle.semantics.specs.Alone.{RunsAlone, Over, Step}
use Rattle.semantics.proofs.PoolsLemmas.{with_slot-shape, shape-class}
use Rattle.semantics.proofs.TestsLemmas.{same_maker-true}
use Rattle.program.specs.declared.runtime_constant.FieldKind.{FieldKind}
use Rattle.program.specs.InstanceFields.{slots_of}
use Rattle.program.specs.Tables.{Tables}
use Rattle.machine.specs.Arrays.{kind_of_component, stored_as}
use Rattle.machine.specs.Linked.{program_of}
use Rattle.machine.specs.Table.{row}
use Rattle.region_shape.specs.Suits.{suits}
use Rattle.region_shape.specs.Shapes.{SuitsStatic, HasObjects, AreElements, AreSlots, ObjectHasShape, HasShape}
use Rattle.region_shape.proofs.KeepsShape.{Types, HasObjectsIfKnown, AreSlotsSeen, SuitsSlot, IsRaise, IsEnd}
use Rattle.region_shape.proofs.KeepsShape.{KeepsShape}
use Rattle.region_shape.specs.Laws.{IsLinked, HaveShape}
use Rattle.region_shape.proofs.BranchesLemmas.{branch, at_hand_some}
use Rattle.semantics.proofs.BranchesLemmas.{fixed_value}
use Rattle.region_shape.proofs.TableRowsLemmas.{row_keeps}

-- ---- slots

zip_set : (ks : List FieldKind) (vs : List Value) (i : ℕ) (v : Value) → AllZip (λ k w. suits k w ≡ true) ks vs
    → ((k : FieldKind) → slice_get ks i ≡ Some k → suits k v ≡ true)
    → AllZip (λ k w. suits k w ≡ true) ks (slice_set vs i v)
zip_set [] [] i v all h = tt
zip_set [] (w ∷ vs) i v all h = absurd all
zip_set (k ∷ ks) [] i v all h = absurd all
zip_set (k ∷ ks) (w ∷ vs) zero v all h = (h k refl, all.1)
zip_set (k ∷ ks) (w ∷ vs) (suc i) v all h = (all.0, zip_set ks vs i v all.1 h)

all_set : (k : FieldKind) (vs : List Value) (i : ℕ) (v : Value) → AllByRecursion (λ w. suits k w ≡ true) vs
    → suits k v ≡ true → AllByRecursion (λ w. suits k w ≡ true) (slice_set vs i v)
all_set k [] i v all h = tt
all_set k (w ∷ vs) zero v all h = (h, all.1)
all_set k (w ∷ vs) (suc i) v all h = (all.0, all_set k vs i v all.1 h)

elements_set : (o : Option ElementKind) (vs : List Value) (i : ℕ) (v : Value) → AreElements o vs
    → ((k : ElementKind) → o ≡ Some k → suits (stored_as k) v ≡ true) → AreElements o (slice_set vs i v)
elements_set None vs i v all h = absurd all
elements_set (Some k) vs i v all h = all_set (stored_as k) vs i v all (h k refl)

none_set : (vs : List Value) (i : ℕ) (v : Value) → vs ≡ [] → slice_set vs i v ≡ []
none_set [] i v h = refl
none_set (w ∷ vs) i v h = absurd cc

module _ (P : Tables) where
  slots_set : (class : ClassId) (vs : List Value) (i : ℕ) (v : Value) → AreSlots P class vs
      → SuitsSlot P (Some class) i v → AreSlots P class (slice_set vs i v)
  slots_set (classes.Given c) vs i v are h = zip_set (slots_of P.family c) vs i v are h
  slots_set (classes.BuiltIn b) vs i v are h = none_set vs i v are
  slots_set (classes.Array a) vs i v are h = elements_set (kind_of_component a) vs i v are h

  object_set : (o : Object) (i : ℕ) (v : Value) → ObjectHasShape P o → SuitsSlot P (Some o.class) i v
      → ObjectHasShape P (object_with_slot i v o)
  object_set o i v shape h = record {
    class = shape.class;
    slots = slots_set o.class o.slots i v shape.slots h;
    monitor = shape.monitor;
  }

  -- ---- what is seen of objects

  object_seen : (o : Option Object) → ((x : Object) → o ≡ Some x → ObjectHasShape P x)
      → HasObjectsIfKnown P (option_map (λ (x : Object). x.class) o)
  object_seen None h = tt
  object_seen (Some x) h = (h x refl).class

  part_seen : (part : Part) (p : Pool) (n : ℕ) → ((x : Object) → p.at n ≡ Some x → ObjectHasShape P x)
      → AreSlotsSeen P (class_at p n) part (part_at part p n)
  part_seen part p n h = by (p.at n) h
    where
      by_part : (k : Part) (x : Object) → ObjectHasShape P x → AreSlotsSeen P (Some x.class) k (part_of k x.slots)
      by_part Slots x shape = shape.slots
      by_part Length x shape = tt
      by_part Named x shape = tt

      by : (o : Option Object) → ((x : Object) → o ≡ Some x → ObjectHasShape P x)
          → AreSlotsSeen P (option_map (λ (x : Object). x.class) o) part
          (option_and_then (part_of part) (option_map (λ (x : Object). x.slots) o))
      by None all = tt
      by (Some x) all = by_part part x (all x refl)

-- of an open part nothing is asked
open_seen : (P : Tables) (part : Part) (o : Option ClassId) (vs : Option (List Value)) → is_open part ≡ true
    → AreSlotsSeen P o part vs
open_seen P Slots o vs is = absurd cc
open_seen P Length None vs is = tt
open_seen P Length (Some class) vs is = tt
open_seen P Named None vs is = tt
open_seen P Named (Some class) vs is = tt

-- the class of an object of a pool, if it is seen
abbrev pub class_in : Option Pool → ℕ → Option ClassId
class_in None n = None
class_in (Some p) n = class_at p n

module _ (P : Tables) (env : Environment) (shaped : HaveShape P env) (c : ℕ) where
  abbrev seen : Region → Types
  seen own x = class_in (pool_seen env c own x.maker) x.number

  abbrev Agrees : Types → Region → Type 0
  Agrees types own = (x : Name) → types x ≡ seen own x

  -- what is seen depends on the objects' classes
  seen_by : (own other : Region) → ((n : ℕ) → class_at own.pool n ≡ class_at other.pool n) → (maker : Maker) (n : ℕ)
      → class_in (pool_seen env c own maker) n ≡ class_in (pool_seen env c other maker) n
  seen_by own other same (Thread t) n = refl
  seen_by own other same (Class d) n = by (d == c)
    where
      by : (b : Bool) → class_in (cond b (Some own.pool) (option_map (λ (r : Region). r.pool) (env d))) n
          ≡ class_in (cond b (Some other.pool) (option_map (λ (r : Region). r.pool) (env d))) n
      by true = same n
      by false = refl

  -- objects that are seen have shape
  seen_has : (own : Region) → HasShape P c own → (maker : Maker) (p : Pool) → pool_seen env c own maker ≡ Some p
      → (n : ℕ) → HasObjectsIfKnown P (class_at p n)
  seen_has own shape (Thread t) p e n = absurd cc
  seen_has own shape (Class d) p e n = by (d == c) e
    where
      in_env : (o : Option Region) → env d ≡ o → option_map (λ (r : Region). r.pool) o ≡ Some p
          → HasObjectsIfKnown P (class_at p n)
      in_env None at h = absurd cc
      in_env (Some r) at h =
          subst (λ (q : Pool). HasObjectsIfKnown P (class_at q n)) (same_Some r.pool p h)
          (object_seen P (r.pool.at n) ((shaped d r at).objects n))

      by : (b : Bool) → cond b (Some own.pool) (option_map (λ (r : Region). r.pool) (env d)) ≡ Some p
          → HasObjectsIfKnown P (class_at p n)
      by true h =
          subst (λ (q : Pool). HasObjectsIfKnown P (class_at q n)) (same_Some own.pool p h)
          (object_seen P (own.pool.at n) (shape.objects n))
      by false h = in_env (env d) refl h

  own_class : (types : Types) (own : Region) → Agrees types own → (x : Name) → same_maker (Class c) x.maker ≡ true
      → types x ≡ class_at own.pool x.number
  own_class types own agrees x same =
      agrees x ∙ ap (λ (k : Maker). class_in (pool_seen env c own k) x.number)
      (sym (same_maker-true (Class c) x.maker same))
      ∙ rw (eq-eqb c c refl) refl

  -- ---- regions that are changed

  field_written : (own : Region) (f : ℕ) (v : Value) → HasShape P c own → SuitsStatic P c f v
      → HasShape P c (with_field own f v)
  field_written own f v shape h = record {
    statics = λ k. elim (tested (k == f)) [
      | inl e ↦ rw e (subst (λ (g : ℕ). SuitsStatic P c g v) (sym (eqb-true k f e)) h)
      | inr e ↦ rw e (shape.statics k)
    ];
    objects = shape.objects;
    no_more = shape.no_more;
  }

  slot_changed : (own : Region) (n i : ℕ) (v : Value) → HasShape P c own → SuitsSlot P (class_at own.pool n) i v
      → HasShape P c (record own { pool = with_slot own.pool n i v })
  slot_changed own n i v shape h = record {
    statics = shape.statics;
    objects = λ k o at. elim (tested (k == n)) [
      | inl e ↦ here (own.pool.at n) (shape.objects n) h o (rw e at at)
      | inr e ↦ shape.objects k o (rw e at at)
    ];
    no_more = λ k past. elim (tested (k == n)) [
      | inl e ↦ rw e (ap (option_map (object_with_slot i v)) (subst (λ (j : ℕ). own.pool.at j ≡ None) (eqb-true k n e)
          (shape.no_more k past)))
      | inr e ↦ rw e (shape.no_more k past)
    ];
  }
    where
      here : (o : Option Object) → ((x : Object) → o ≡ Some x → ObjectHasShape P x)
          → SuitsSlot P (option_map (λ (x : Object). x.class) o) i v → (y : Object)
          → option_map (object_with_slot i v) o ≡ Some y → ObjectHasShape P y
      here None all fits y e = absurd cc
      here (Some x) all fits y e = subst (ObjectHasShape P) (same_Some _ y e) (object_set P x i v (all x refl) fits)

  object_made : (own : Region) (class : ClassId) (slots : List Value) → HasShape P c own → HasObjects P class
      → AreSlots P class slots → HasShape P c (record own { pool = with_new own.pool class slots })
  object_made own class slots shape has are = record {
    statics = shape.statics;
    objects = λ k o at. elim (tested (k == own.pool.count)) [
      | inl e ↦
          subst (ObjectHasShape P) (same_Some _ o (rw e at at))
          (record { class = has; slots = are; monitor = refl })
      | inr e ↦ shape.objects k o (rw e at at)
    ];
    no_more = λ k past.
        rw (ne_eqb k own.pool.count (λ same. omega (arith, past, same))) (shape.no_more k (omega (arith, past)));
  }

  -- ---- rows

  raise_stops : (row : Row) (own : Region) (n : ℕ) (m : QuietMove) → IsRaise row
      → quiet (program_of P) env c own n row ≡ Leaves m → ⊥
  raise_stops (Ends (Raise x class)) own n m is q = cc
  raise_stops other own n m is q = absurd is

  -- what a quiet row leaves: a region with shape, with one object more at most
  pub record IsKept (own : Region) (m : QuietMove) : Type 0 where
    pub shape : HasShape P c m.region
    pub few : m.region.pool.count ≤ own.pool.count + 1

  same_count : (own other : Region) → own.pool.count ≡ other.pool.count → (m : QuietMove) → IsKept own m
      → IsKept other m
  same_count own other same m kept = record { shape = kept.shape; few = omega (arith, kept.few, same) }

  ends_kept : (row : Row) (own : Region) (n : ℕ) (m : QuietMove) → IsEnd row → HasShape P c own
      → quiet (program_of P) env c own n row ≡ Leaves m → HasShape P c m.region × (m.region.pool.count ≤ own.pool.count)
  ends_kept (Ends (Next move)) own n m is shape q =
      let e : record { move = move; region = own; elements = n } ≡ m = cc in
      subst (λ (x : QuietMove). HasShape P c x.region × (x.region.pool.count ≤ own.pool.count)) e (shape, omega arith)
  ends_kept (Ends (Raise x class)) own n m is shape q = absurd cc
  ends_kept (Ends (Halt kind)) own n m is shape q = absurd cc
  ends_kept other own n m is shape q = absurd is

  pub quiet_keeps : (row : Row) (types : Types) (own : Region) (n : ℕ) (m : QuietMove) → KeepsShape P types row
      → Agrees types own → HasShape P c own → quiet (program_of P) env c own n row ≡ Leaves m → IsKept own m
  quiet_keeps (Ends (Next move)) types own n m keeps agrees shape q =
      let e : record { move = move; region = own; elements = n } ≡ m = cc in
      subst (IsKept own) e (record { shape = shape; few = omega arith })
  quiet_keeps (Ends (Raise x class)) types own n m keeps agrees shape q = absurd cc
  quiet_keeps (Ends (Halt kind)) types own n m keeps agrees shape q = absurd cc
  quiet_keeps (UseClass d next) types own n m keeps agrees shape q = elim (branch (d == c) q) [
    | inl on ↦ quiet_keeps (next true) types own n m (keeps true) agrees shape on.1
    | inr other ↦ quiet_keeps (next true) types own n m (keeps true) agrees shape (at_hand_some (env d) other.1).2
  ]
  quiet_keeps (ReadStatic d f next) types own n m keeps agrees shape q = elim (branch (d == c) q) [
    | inl on ↦ quiet_keeps (next (own.fields f)) types own n m (keeps (own.fields f)) agrees shape on.1
    | inr other ↦
        let at = at_hand_some (env d) other.1 in
        elim (branch (is_final (program_of P) d f) at.2) [
          | inl final ↦
              quiet_keeps (next (at.0.fields f)) types own n m (keeps (at.0.fields f)) agrees shape final.1
          | inr shut ↦ absurd (let clash : Stops Barred ≡ Leaves m = shut.1 in cc)
        ]
  ]
  quiet_keeps (WriteStatic d f v next) types own n m keeps agrees shape q = elim (branch (d == c) q) [
    | inl on ↦ same_count (with_field own f v) own refl m (
        quiet_keeps next types (with_field own f v) n m keeps.1
        (λ x. agrees x ∙ seen_by own (with_field own f v) (λ k. refl) x.maker x.number)
        (field_written own f v shape (subst (λ (e : ℕ). SuitsStatic P e f v) (eqb-true d c on.0) keeps.0))
        on.1)
    | inr other ↦ absurd (let clash : Stops Barred ≡ Leaves m = other.1 in cc)
  ]
  quiet_keeps (AskClass x next) types own n m keeps agrees shape q =
      let at = at_hand_some (pool_seen env c own x.maker) q in
      let is : types x ≡ class_at at.0 x.number = agrees x ∙ ap (λ o. class_in o x.number) at.1 in
      let known = subst (HasObjectsIfKnown P) (sym is) (seen_has own shape x.maker at.0 at.1 x.number) in
      quiet_keeps (next (types x)) types own n m (keeps known) agrees shape
      (subst (λ o. quiet (program_of P) env c own n (next o) ≡ Leaves m) (sym is) at.2)
  quiet_keeps (LookInto x part next) types own n m keeps agrees shape q =
      elim (branch (same_maker (Class c) x.maker) q) [
        | inl on ↦
            let is : types x ≡ class_at own.pool x.number = own_class types own agrees x on.0 in
            quiet_keeps (next (part_at part own.pool x.number)) types own n m
            (keeps (part_at part own.pool x.number)
            (subst (λ o. AreSlotsSeen P o part (part_at part own.pool x.number)) (sym is)
            (part_seen P part own.pool x.number (shape.objects x.number))))
            agrees shape on.1
        | inr other ↦ elim (branch (is_open part) other.1) [
          | inl open_part ↦
              let at = at_hand_some (pool_seen env c own x.maker) open_part.1 in
              let fixed = fixed_value (fixed_at (program_of P) part at.0 x.number) _ at.2 in
              quiet_keeps (next (Some fixed.0)) types own n m
              (keeps (Some fixed.0) (open_seen P part (types x) (Some fixed.0) open_part.0)) agrees shape fixed.2
          | inr shut ↦ absurd (let clash : Stops (Refused ForeignObject) ≡ Leaves m = shut.1 in cc)
        ]
      ]
  quiet_keeps (Change x i v next) types own n m keeps agrees shape q =
      elim (branch (same_maker (Class c) x.maker) q) [
        | inl on ↦
            let is : types x ≡ class_at own.pool x.number = own_class types own agrees x on.0 in
            let new : Region = record own { pool = with_slot own.pool x.number i v } in
            same_count new own refl m (quiet_keeps next types new n m keeps.1
            (λ y. agrees y ∙ seen_by own new (λ k. sym (shape-class (with_slot own.pool x.number i v) own.pool k
            (with_slot-shape own.pool x.number i v k))) y.maker y.number)
            (slot_changed own x.number i v shape (subst (λ o. SuitsSlot P o i v) is keeps.0))
            on.1)
        | inr other ↦ absurd (let clash : Stops (Refused ForeignObject) ≡ Leaves m = other.1 in cc)
      ]
  quiet_keeps (Make class slots next) types own n m keeps agrees shape q = elim keeps [
    | inl raises ↦ absurd (raise_stops (next (record { maker = Class c; number = own.pool.count }))
        (record own { pool = with_new own.pool class slots }) (n + elements_in class slots) m
        (raises (record { maker = Class c; number = own.pool.count })) q)
    | inr made ↦
        let x : Name = record { maker = Class c; number = own.pool.count } in
        let new : Region = record own { pool = with_new own.pool class slots } in
        let kept =
        ends_kept (next x) new (n + elements_in class slots) m (made.2 x)
        (object_made own class slots shape made.0 made.1) q in
        record { shape = kept.0; few = kept.1 }
  ]
  quiet_keeps (UseMonitor x enter next) types own n m keeps agrees shape q = absurd cc
  quiet_keeps (Print text next) types own n m keeps agrees shape q = absurd cc

module _ (P : Tables) (linked : IsLinked P) (env : Environment) (shaped : HaveShape P env) (c : ℕ) where
  pub step_keeps : (f : Frame) (own : Region) (m : QuietMove) → quiet_step (program_of P) env c f own ≡ Leaves m
      → HasShape P c own → IsKept P env shaped c own m
  step_keeps f own m q shape =
      quiet_keeps P env shaped c (row P f) (seen P env shaped c own) own 0 m
      (row_keeps P linked (seen P env shaped c own) f) (λ x. refl) shape q

  pub run_keeps : {fs : List Frame} {own last : Region} {n : ℕ} → RunsAlone (program_of P) env c fs own n last
      → HasShape P c own → HasShape P c last
  run_keeps Over shape = shape
  run_keeps (Step {f = f} {own = own} {m = m} q moves rest) shape = run_keeps rest (step_keeps f own m q shape).shape
