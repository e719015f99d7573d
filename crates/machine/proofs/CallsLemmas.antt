-- What calls reach, and what they hand on.
use Rattle.std.proofs.Common.{ℕ, zero, suc, ◌+◌, List, [], ◌∷◌, take, Option}
use Rattle.std.proofs.Common.{Some, None, sym, subst, ◌++◌}
use Rattle.std.specs.Prelude.{option_and_then, reverse}
use Rattle.std.proofs.lemmas.Grind.{reverse_onto}
use Rattle.std.specs.List.{AllByRecursion}
use Rattle.std.specs.Option.{IfSome}
use Rattle.vm_state.specs.declared.value.Value.{Value}
use Rattle.vm_state.specs.Values.{places}
use Rattle.vm_state.specs.Operands.{OperandStack, dropped, rest}
use Rattle.vm_state.specs.Locals.{stored}
use Rattle.vm_state.specs.Arguments.{taken, passed}
use Rattle.frame_instructions.proofs.LawsFrameLemmas.{HoldsOfLocals, rest_has, stored_has}

-- ---- what a call hands on was among the operands

module _ (Q : Value → Type 0) where
  pub dropped_has : (n : ℕ) (s : OperandStack) → AllByRecursion Q s.values → AllByRecursion Q (dropped n s).values
  dropped_has zero s h = h
  dropped_has (suc n) s h = dropped_has n (rest s) (rest_has Q s h)

  first_has : (n : ℕ) (vs : List Value) → AllByRecursion Q vs → AllByRecursion Q (take n vs)
  first_has zero vs h = tt
  first_has (suc n) [] h = tt
  first_has (suc n) (v ∷ vs) h = (h.0, first_has n vs h.1)

  joined_has : (vs more : List Value) → AllByRecursion Q vs → AllByRecursion Q more → AllByRecursion Q (vs ++ more)
  joined_has [] more h hm = hm
  joined_has (v ∷ vs) more h hm = (h.0, joined_has vs more h.1 hm)

  turned_has : (vs : List Value) → AllByRecursion Q vs → AllByRecursion Q (reverse vs)
  turned_has [] h = tt
  turned_has (v ∷ vs) h =
      subst (AllByRecursion Q) (sym (reverse_onto vs v []))
      (joined_has (reverse vs) (v ∷ []) (turned_has vs h.1) (h.0, tt))

  pub taken_has : (n : ℕ) (s : OperandStack) → AllByRecursion Q s.values → AllByRecursion Q (taken n s)
  unfolding taken
  taken_has n s h = turned_has (take n s.values) (first_has n s.values h)

  pub passed_has : (locals : List (Option Value)) (at : ℕ) (vs : List Value) → HoldsOfLocals Q locals
      → AllByRecursion Q vs → IfSome (passed locals at vs) (HoldsOfLocals Q)
  unfolding passed
  passed_has locals at [] h hv = h
  passed_has locals at (v ∷ vs) h hv =
      by (stored locals at v) (stored_has Q locals at v h hv.0)
      (λ ls held. passed_has ls (at + places v) vs held hv.1)
    where
      by : (o : Option (List (Option Value))) → IfSome o (HoldsOfLocals Q)
          → ((ls : List (Option Value)) → HoldsOfLocals Q ls
          → IfSome (passed ls (at + places v) vs) (HoldsOfLocals Q))
          → IfSome (option_and_then (λ ls. passed ls (at + places v) vs) o) (HoldsOfLocals Q)
      by None held further = tt
      by (Some ls) held further = further ls held
