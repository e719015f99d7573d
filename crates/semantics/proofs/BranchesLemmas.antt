-- Which branch gave the result of a test, and which value that of an option.
use Rattle.std.proofs.Common.{◌≡◌, ◌⊎◌, inl, inr, Bool, true, false, cond, Option, Some, None, IsSome, List, refl}
use Rattle.vm_state.specs.declared.value.Value.{Value}
use Rattle.semantics.specs.Quiet.{QuietMove, Conduct, Leaves, at_hand, if_fixed}

-- ---- tests

-- where the other branch gives nothing
pub on_true : {A Q : Type 0} (b : Bool) {o : Option A} {z : A} → cond b o None ≡ Some z → (o ≡ Some z → Q) → Q
on_true true is first = first is
on_true false is first = cc

-- two results of one test come from the same branch
pub on_same : {A B : Type 0} (b : Bool) {x y z : A} {u v w : B} → (x ≡ z → u ≡ w) → (y ≡ z → v ≡ w) → cond b x y ≡ z
    → cond b u v ≡ w
on_same true first second is = first is
on_same false first second is = second is

-- ---- options

pub none_or_some : {X : Type 0} (o : Option X) → (o ≡ None) ⊎ ((x : X) × (o ≡ Some x))
none_or_some None = inl refl
none_or_some (Some x) = inr (x, refl)

pub value_in : {X : Type 0} (o : Option X) → IsSome o → (x : X) × (o ≡ Some x)
value_in None is = cc
value_in (Some x) is = (x, refl)

-- two instructions that go on with one value, which the second has at hand where the first has it
pub on_value : {A : Type 0} (o p : Option A) {f g : A → Conduct} {m : QuietMove} → ((a : A) → o ≡ Some a → p ≡ Some a) →
    ((a : A) → f a ≡ Leaves m → g a ≡ Leaves m) → at_hand o f ≡ Leaves m → at_hand p g ≡ Leaves m
on_value None p kept same is = cc
on_value (Some a) p kept same is = rw (kept a refl) (same a is)

-- two instructions that go on with what is fixed of an object
pub on_fixed : (o : Option (List Value)) (f g : Option (List Value) → Conduct) {m : QuietMove}
    → (f o ≡ Leaves m → g o ≡ Leaves m) →
    if_fixed o f ≡ Leaves m → if_fixed o g ≡ Leaves m
on_fixed None f g same is = cc
on_fixed (Some vs) f g same is = same is

-- what is at hand where an instruction is quiet that goes on with it, and what is fixed
pub hand_value : {A : Type 0} (o : Option A) (f : A → Conduct) {m : QuietMove} → at_hand o f ≡ Leaves m
    → (a : A) × (o ≡ Some a) × (f a ≡ Leaves m)
hand_value None f is = cc
hand_value (Some a) f is = (a, refl, is)

pub fixed_value : (o : Option (List Value)) (f : Option (List Value) → Conduct) {m : QuietMove}
    → if_fixed o f ≡ Leaves m → (vs : List Value) × (o ≡ Some vs) × (f (Some vs) ≡ Leaves m)
fixed_value None f is = cc
fixed_value (Some vs) f is = (vs, refl, is)
