-- A property that halts and new exceptions have goes from what follows a part of a toy row to the whole row.
use Rattle.std.proofs.Common.{◌≡◌, ℕ, ℤ, pos, negsuc, Bool, true, false, if◌then◌else◌, List, Option, Some, None}
use Rattle.std.proofs.Common.{option_and_then, slice_get, refl}
use Rattle.vm_state.specs.declared.value.Value.{Value}
use Rattle.vm_state.specs.declared.value.Value.TheVariants.{Int, Long, Null, Text, OfClass, OfThread, Out}
use Rattle.vm_state.specs.declared.value.Name.{Name}
use Rattle.built_in.specs.declared.class_id.BuiltIn.{BuiltIn}
use Rattle.built_in.specs.declared.class_id.BuiltIn.TheVariants as classes
use Rattle.vm_state.specs.declared.ends.FaultKind.{FaultKind}
use Rattle.vm_state.specs.declared.ends.FaultKind.TheVariants.{Fault, Unsupported}
use Rattle.vm_state.specs.Values.{name_of}
use Rattle.semantics.specs.Rows.{Row}
use Rattle.semantics.proofs.ToyMachine.{halts, raises, needing, on_object, with_length}

-- A property of rows that those have which halt, or raise a new exception.
pub record Admits (Holds : Row → Type 0) : Type 0 where
  pub halting : (kind : FaultKind) → Holds (halts kind)
  pub raising : (class : BuiltIn) → Holds (raises class)

module _ {Holds : Row → Type 0} (admits : Admits Holds) where
  pub needing_holds : {A : Type 0} (kind : FaultKind) (o : Option A) (go : A → Row) →
      ((x : A) → o ≡ Some x → Holds (go x)) → Holds (needing kind o go)
  needing_holds kind None go h = admits.halting kind
  needing_holds kind (Some x) go h = h x refl

  pub choice_holds : (b : Bool) (first second : Row) → (b ≡ true → Holds first) → Holds second
      → Holds (if b then first else second)
  choice_holds true first second h k = h refl
  choice_holds false first second h k = k

  pub class_holds : (b : Bool) (row : Row) → Holds row → Holds (if b then row else raises classes.NoClassDefFoundError)
  class_holds b row h = choice_holds b row _ (λ e. h) (admits.raising classes.NoClassDefFoundError)

  pub object_holds : (o : Option Value) (go : Name → Row) →
      ((x : Name) → option_and_then name_of o ≡ Some x → Holds (go x)) → Holds (on_object o go)
  object_holds None go h = admits.halting Fault
  object_holds (Some Null) go h = admits.raising classes.NullPointerException
  object_holds (Some (OfClass c n)) go h = h _ refl
  object_holds (Some (OfThread t n)) go h = h _ refl
  object_holds (Some (Int n)) go h = admits.halting Fault
  object_holds (Some (Long n)) go h = admits.halting Fault
  object_holds (Some (Text s)) go h = admits.halting Unsupported
  object_holds (Some Out) go h = admits.halting Unsupported

  pub slot_holds : (o : Option (List Value)) (i : ℕ) (go : Value → Row) →
      ((slots : List Value) (v : Value) → o ≡ Some slots → slice_get slots i ≡ Some v → Holds (go v)) →
      Holds (needing Fault o (λ slots. needing Fault (slice_get slots i) go))
  slot_holds o i go h =
      needing_holds Fault o _ (λ slots e. needing_holds Fault (slice_get slots i) go (λ v at. h slots v e at))

  pub length_holds : (n : ℤ) (go : ℕ → Row) → ((count : ℕ) → Holds (go count)) → Holds (with_length n go)
  length_holds (pos n) go h = h n
  length_holds (negsuc n) go h = admits.raising classes.NegativeArraySizeException
