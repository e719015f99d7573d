-- Statics begin with no names.
use Rattle.std.proofs.Common.{◌≡◌, ℕ, zero, suc, List, [], ◌∷◌, Option, Some, None, refl, sym, subst, slice_get}
use Rattle.std.proofs.Common.{unwrap_or}
use Rattle.std.specs.List.{AllByRecursion}
use Rattle.vm_state.specs.declared.value.Value.{Value}
use Rattle.vm_state.specs.declared.classes.StaticField.{StaticField}
use Rattle.vm_state.specs.Values.{name_of}
use Rattle.vm_state.specs.Statics.{constant_or, zeros_of}
use Rattle.semantics.specs.Lawful.{Names, KnowsName, Knows, HoldsNoName}

no_name : (known : Names) (v : Value) → name_of v ≡ None → Knows known v
no_name known v e = subst (KnowsName known) (sym e) tt

constant_known : (known : Names) (field : StaticField) (v : Value) → HoldsNoName field → Knows known v →
    Knows known (constant_or (Some field) v)
constant_known known field v h k = go field.constant refl
  where
    go : (o : Option Value) → field.constant ≡ o → Knows known (unwrap_or o v)
    go None e = k
    go (Some u) e = no_name known u (h.1 u e)

-- with the constants set
pub constants_known : (known : Names) (statics : List StaticField) → AllByRecursion HoldsNoName statics
    → (f : ℕ) (v : Value) →
    Knows known v → Knows known (constant_or (slice_get statics f) v)
constants_known known [] h f v k = k
constants_known known (field ∷ fields) h zero v k = constant_known known field v h.0 k
constants_known known (field ∷ fields) h (suc f) v k = constants_known known fields h.1 f v k

-- before that
pub zeros_known : (known : Names) (statics : List StaticField) → AllByRecursion HoldsNoName statics → (f : ℕ) →
    Knows known (zeros_of statics f)
zeros_known known [] h f = tt
zeros_known known (field ∷ fields) h zero = no_name known field.zero h.0.0
zeros_known known (field ∷ fields) h (suc f) = zeros_known known fields h.1 f
