-- What holds of all values of a frame holds of what the primitives of operand stacks and local variables give.
use Rattle.std.proofs.Common.{ℕ, zero, suc, Bool, true, false, List, [], ◌∷◌, ◌+◌, ◌-◌, Option, Some, None}
use Rattle.std.proofs.Common.{length, slice_get, slice_set}
use Rattle.std.specs.Prelude.{nat_le, if◌then◌else◌}
use Rattle.std.specs.List.{AllByRecursion}
use Rattle.std.specs.Option.{IfSome}
use Rattle.vm_state.specs.declared.value.Value.{Value}
use Rattle.vm_state.specs.Values.{places}
use Rattle.vm_state.specs.Operands.{OperandStack, pushed, top, top_of, rest, rest_of}
use Rattle.vm_state.specs.Locals.{held, whole, whole_of, is_empty, value_at, second_cleared, stored}
use Rattle.semantics.specs.Lawful.{HoldsOfSome}
use Rattle.frame_instructions.specs.declared.operand_kind.OperandKind.{OperandKind}
use Rattle.frame_instructions.specs.OperandKinds.{kind_of, is_kind, of_kind, as_kind}

module _ (Q : Value → Type 0) where
  abbrev pub HoldsOfLocals : List (Option Value) → Type 0
  HoldsOfLocals locals = AllByRecursion (HoldsOfSome Q) locals

  pub top_has : (s : OperandStack) → AllByRecursion Q s.values → IfSome (top s) Q
  unfolding top
  top_has s h = first s.values h where
    first : (vs : List Value) → AllByRecursion Q vs → IfSome (top_of vs) Q
    first [] h = tt
    first (v ∷ vs) h = h.0

  pub rest_has : (s : OperandStack) → AllByRecursion Q s.values → AllByRecursion Q (rest s).values
  unfolding rest
  rest_has s h = others s.values h where
    others : (vs : List Value) → AllByRecursion Q vs → AllByRecursion Q (rest_of vs s.free).values
    others [] h = tt
    others (v ∷ vs) h = h.1

  pub pushed_has : (v : Value) (s : OperandStack) →
      Q v → AllByRecursion Q s.values → IfSome (pushed v s) (λ t. AllByRecursion Q t.values)
  unfolding pushed
  pushed_has v s hv hs = room (nat_le (places v) s.free) where
    more : OperandStack
    more = record { free = s.free - places v; values = v ∷ s.values }

    room : (b : Bool) → IfSome (if b then Some more else None) (λ t. AllByRecursion Q t.values)
    room true = (hv, hs)
    room false = tt

  pub as_kind_has : (k : OperandKind) (o : Option Value) → IfSome o Q → IfSome (as_kind k o) Q
  unfolding of_kind
  as_kind_has k None h = tt
  as_kind_has k (Some v) h = kept (is_kind k (kind_of v)) where
    kept : (b : Bool) → IfSome (if b then Some v else None) Q
    kept true = h
    kept false = tt

  -- ---- local variables

  got : (locals : List (Option Value)) (at : ℕ) → HoldsOfLocals locals → HoldsOfSome Q (held (slice_get locals at))
  got [] at h = tt
  got (l ∷ ls) zero h = h.0
  got (l ∷ ls) (suc at) h = got ls at h.1

  whole_has : (n : ℕ) (b : Bool) (v : Value) → Q v → IfSome (whole n b v) Q
  whole_has zero b v h = h
  whole_has (suc zero) b v h = h
  whole_has (suc (suc n)) true v h = h
  whole_has (suc (suc n)) false v h = tt

  pub value_has : (locals : List (Option Value)) (at : ℕ) →
      HoldsOfLocals locals → IfSome (value_at locals at) Q
  unfolding value_at
  value_has locals at h =
      of (held (slice_get locals at)) (is_empty (slice_get locals (at + 1))) (got locals at h) where
        of : (o : Option Value) (b : Bool) → HoldsOfSome Q o → IfSome (whole_of o b) Q
        of None b h = tt
        of (Some v) b h = whole_has (places v) b v h

  set_has : (locals : List (Option Value)) (at : ℕ) (o : Option Value) →
      HoldsOfLocals locals → HoldsOfSome Q o → HoldsOfLocals (slice_set locals at o)
  set_has [] at o h ho = tt
  set_has (l ∷ ls) zero o h ho = (ho, h.1)
  set_has (l ∷ ls) (suc at) o h ho = (h.0, set_has ls at o h.1 ho)

  cleared_has : (n : ℕ) (locals : List (Option Value)) (at : ℕ) →
      HoldsOfLocals locals → HoldsOfLocals (second_cleared n locals at)
  cleared_has zero locals at h = h
  cleared_has (suc zero) locals at h = h
  cleared_has (suc (suc n)) locals at h = set_has locals (at + 1) None h tt

  pub stored_has : (locals : List (Option Value)) (at : ℕ) (v : Value) →
      HoldsOfLocals locals → Q v → IfSome (stored locals at v) HoldsOfLocals
  unfolding stored
  stored_has locals at v h hv = within (nat_le (at + places v) (length locals)) where
    after : List (Option Value)
    after = second_cleared (places v) (slice_set locals at (Some v)) at

    within : (b : Bool) → IfSome (if b then Some after else None) HoldsOfLocals
    within true = cleared_has (places v) (slice_set locals at (Some v)) at (set_has locals at (Some v) h hv)
    within false = tt
