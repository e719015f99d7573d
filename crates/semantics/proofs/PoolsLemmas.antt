-- What a change of some objects keeps: whose names they hold, and their classes.
use Rattle.std.proofs.Common.{◌≡◌, ℕ, ℤ, zero, suc, inl, inr, List, [], ◌∷◌, Option, Some, None, ◌==◌, refl, eqb-true}
use Rattle.std.proofs.Common.{option_map, option_and_then, slice_set}
use Rattle.std.proofs.Common.{ap, length, subst}
use Rattle.std.proofs.lemmas.List.{length-set}
use Rattle.std.specs.List.{AllByRecursion}
use Rattle.vm_state.specs.declared.value.Value.{Value}
use Rattle.vm_state.specs.declared.value.Value.TheVariants.{Null, Int}
use Rattle.built_in.specs.declared.class_id.ClassId.{ClassId}
use Rattle.vm_state.specs.declared.object.Object.{Object}
use Rattle.vm_state.specs.declared.object.Monitor.{Monitor}
use Rattle.vm_state.specs.SharedState.{Pool, with_object, with_slot, with_new, object_with_slot, class_at, slots_at}
use Rattle.semantics.specs.Rows.{Part, Slots, Length, Named, named, int_length, part_of, part_at}
use Rattle.vm_state.specs.SharedState.{object_with_monitor, with_monitor}
use Rattle.semantics.specs.Programs.{Program}
use Rattle.semantics.specs.Quiet.{fixed_of, fixed_at}
use Rattle.semantics.specs.Lawful.{Names, Knows, KnowsAll, KnowsSlots, HoldsOfSlots}
use Rattle.vm_state.proofs.ListLemmas.{tested}
use Rattle.semantics.proofs.BranchesLemmas.{on_true}

-- ---- what objects hold

abbrev pub HoldsOfPool : (Value → Type 0) → Pool → Type 0
HoldsOfPool Q p = (n : ℕ) → HoldsOfSlots Q (slots_at p n)

abbrev pub slots_of : Option Object → Option (List Value)
slots_of o = option_map (λ (x : Object). x.slots) o

abbrev class_of : Option Object → Option ClassId
class_of o = option_map (λ (x : Object). x.class) o

module _ (Q : Value → Type 0) where
  with_object-has : (p : Pool) (n : ℕ) (o : Option Object) → HoldsOfPool Q p → HoldsOfSlots Q (slots_of o)
      → HoldsOfPool Q (with_object p n o)
  with_object-has p n o h ho k = elim (tested (k == n)) [
    | inl e ↦ rw e ho
    | inr e ↦ rw e (h k)
  ]

  set-has : (vs : List Value) (i : ℕ) (v : Value) → AllByRecursion Q vs → Q v → AllByRecursion Q (slice_set vs i v)
  set-has [] i v h kv = tt
  set-has (u ∷ us) zero v h kv = (kv, h.1)
  set-has (u ∷ us) (suc i) v h kv = (h.0, set-has us i v h.1 kv)

  pub slot-has : (i : ℕ) (v : Value) → Q v → (o : Option Object) → HoldsOfSlots Q (slots_of o)
      → HoldsOfSlots Q (slots_of (option_map (object_with_slot i v) o))
  slot-has i v kv None k = tt
  slot-has i v kv (Some o) k = set-has o.slots i v k kv

  pub monitor-has : (m : Monitor) (o : Option Object) → HoldsOfSlots Q (slots_of o)
      → HoldsOfSlots Q (slots_of (option_map (object_with_monitor m) o))
  monitor-has m None k = tt
  monitor-has m (Some o) k = k

  pub with_slot-has : (p : Pool) (n i : ℕ) (v : Value) → HoldsOfPool Q p → Q v → HoldsOfPool Q (with_slot p n i v)
  with_slot-has p n i v h kv = with_object-has p n _ h (slot-has i v kv (p.at n) (h n))

  with_monitor-has : (p : Pool) (n : ℕ) (m : Monitor) → HoldsOfPool Q p → HoldsOfPool Q (with_monitor p n m)
  with_monitor-has p n m h = with_object-has p n _ h (monitor-has m (p.at n) (h n))

  pub with_new-has : (p : Pool) (class : ClassId) (slots : List Value) → HoldsOfPool Q p → AllByRecursion Q slots
      → HoldsOfPool Q (with_new p class slots)
  with_new-has p class slots h ks n = elim (tested (n == p.count)) [
    | inl e ↦ rw e ks
    | inr e ↦ rw e (h n)
  ]

  -- a length is an int
  module _ (ints : (n : ℤ) → Q (Int n)) where
    named-has : (name ordinal : Value) → Q name → Q ordinal → HoldsOfSlots Q (named name ordinal)
    named-has Null ordinal k h = tt
    named-has name ordinal k h = (k, (h, tt))

    part_of-has : (part : Part) (vs : List Value) → AllByRecursion Q vs → HoldsOfSlots Q (part_of part vs)
    part_of-has Slots vs k = k
    part_of-has Length vs k = (ints (int_length (length vs)), tt)
    part_of-has Named [] k = tt
    part_of-has Named (v ∷ []) k = tt
    part_of-has Named (name ∷ ordinal ∷ vs) k = named-has name ordinal k.0 k.1.0

    pub part-has : (part : Part) (o : Option (List Value)) → HoldsOfSlots Q o
        → HoldsOfSlots Q (option_and_then (part_of part) o)
    part-has part None k = tt
    part-has part (Some vs) k = part_of-has part vs k

    pub part_at-has : (part : Part) (p : Pool) (n : ℕ) → HoldsOfPool Q p → HoldsOfSlots Q (part_at part p n)
    part_at-has part p n h = part-has part (slots_at p n) (h n)

-- ---- names

-- the objects hold known names alone
abbrev pub Holds : Names → Pool → Type 0
Holds known p = HoldsOfPool (Knows known) p

pub with_slot-holds : (known : Names) (p : Pool) (n i : ℕ) (v : Value) → Holds known p → Knows known v
    → Holds known (with_slot p n i v)
with_slot-holds known p n i v h kv = with_slot-has (Knows known) p n i v h kv

pub with_monitor-holds : (known : Names) (p : Pool) (n : ℕ) (m : Monitor) → Holds known p
    → Holds known (with_monitor p n m)
with_monitor-holds known p n m h = with_monitor-has (Knows known) p n m h

pub with_new-holds : (known : Names) (p : Pool) (class : ClassId) (slots : List Value) → Holds known p
    → KnowsAll known slots →
    Holds known (with_new p class slots)
with_new-holds known p class slots h ks = with_new-has (Knows known) p class slots h ks

-- ---- what never changes of an object: its class, and how many slots it has

abbrev shape_of : Option Object → Option (ClassId × ℕ)
shape_of o = option_map (λ (x : Object). (x.class, length x.slots)) o

abbrev pub shape_at : Pool → ℕ → Option (ClassId × ℕ)
shape_at p n = shape_of (p.at n)

with_object-shape : (p : Pool) (n : ℕ) (o : Option Object) → shape_of o ≡ shape_at p n → (k : ℕ) →
    shape_at (with_object p n o) k ≡ shape_at p k
with_object-shape p n o h k = elim (tested (k == n)) [
  | inl e ↦ rw (e, eqb-true k n e) h
  | inr e ↦ rw e
]

pub with_slot-shape : (p : Pool) (n i : ℕ) (v : Value) (k : ℕ) → shape_at (with_slot p n i v) k ≡ shape_at p k
with_slot-shape p n i v k = with_object-shape p n _ (same (p.at n)) k
  where
    same : (o : Option Object) → shape_of (option_map (object_with_slot i v) o) ≡ shape_of o
    same None = refl
    same (Some o) = rw (length-set o.slots i v) refl

pub with_monitor-shape : (p : Pool) (n : ℕ) (m : Monitor) (k : ℕ) → shape_at (with_monitor p n m) k ≡ shape_at p k
with_monitor-shape p n m k = with_object-shape p n _ (same (p.at n)) k
  where
    same : (o : Option Object) → shape_of (option_map (object_with_monitor m) o) ≡ shape_of o
    same None = refl
    same (Some o) = refl

pub shape-class : (p q : Pool) (n : ℕ) → shape_at p n ≡ shape_at q n → class_at p n ≡ class_at q n
shape-class p q n same = by_objects (p.at n) (q.at n) same
  where
    by_objects : (o r : Option Object) → shape_of o ≡ shape_of r → class_of o ≡ class_of r
    by_objects None None is = refl
    by_objects None (Some r) is = cc
    by_objects (Some o) None is = cc
    by_objects (Some o) (Some r) is = ap (option_map (λ (s : ClassId × ℕ). s.0)) is

-- ---- what is fixed

pub fixed-part : (P : Program) (part : Part) (p : Pool) (n : ℕ) (vs : List Value) → fixed_at P part p n ≡ Some vs
    → part_at part p n ≡ Some vs
fixed-part P part p n vs is = by_object (p.at n) is
  where
    of_object : (part : Part) (o : Object) → fixed_of P part o ≡ Some vs → part_of part o.slots ≡ Some vs
    of_object Slots o h = cc
    of_object Length o h = h
    of_object Named o h = on_true (P.is_enum o.class) h (λ same. same)

    by_object : (o : Option Object) → option_and_then (fixed_of P part) o ≡ Some vs
        → option_and_then (part_of part) (slots_of o) ≡ Some vs
    by_object None h = cc
    by_object (Some o) h = of_object part o h

-- an object with as many slots has the same length
pub length-fixed : (P : Program) (p q : Pool) (n : ℕ) → shape_at p n ≡ shape_at q n
    → fixed_at P Length p n ≡ fixed_at P Length q n
length-fixed P p q n same = by_objects (p.at n) (q.at n) same
  where
    by_objects : (o r : Option Object) → shape_of o ≡ shape_of r →
        option_and_then (fixed_of P Length) o ≡ option_and_then (fixed_of P Length) r
    by_objects None None is = refl
    by_objects None (Some r) is = cc
    by_objects (Some o) None is = cc
    by_objects (Some o) (Some r) is = ap (option_map (λ (s : ClassId × ℕ). Int (int_length s.1) ∷ [])) is

-- ---- parts of objects

pub part_at-holds : (known : Names) (part : Part) (p : Pool) (n : ℕ) → Holds known p
    → KnowsSlots known (part_at part p n)
part_at-holds known part p n h = part_at-has (Knows known) (λ n. tt) part p n h

-- what is fixed of an object that holds known names alone
pub fixed_at-holds : (known : Names) (P : Program) (part : Part) (p : Pool) (n : ℕ) → Holds known p
    → KnowsSlots known (fixed_at P part p n)
fixed_at-holds known P part p n h = by_fixed (fixed_at P part p n) refl
  where
    by_fixed : (o : Option (List Value)) → fixed_at P part p n ≡ o → KnowsSlots known o
    by_fixed None is = tt
    by_fixed (Some vs) is =
        subst (KnowsSlots known) (fixed-part P part p n vs is) (part_at-holds known part p n h)

-- a length is no name
pub fixed-known : (known : Names) (P : Program) (part : Part) (p : Pool) (n : ℕ)
    → KnowsSlots known (fixed_at P Named p n) → KnowsSlots known (fixed_at P part p n)
fixed-known known P Slots p n h = by_object (p.at n)
  where
    by_object : (o : Option Object) → KnowsSlots known (option_and_then (fixed_of P Slots) o)
    by_object None = tt
    by_object (Some o) = tt
fixed-known known P Length p n h = by_object (p.at n)
  where
    by_object : (o : Option Object) → KnowsSlots known (option_and_then (fixed_of P Length) o)
    by_object None = tt
    by_object (Some o) = (tt, tt)
fixed-known known P Named p n h = h
