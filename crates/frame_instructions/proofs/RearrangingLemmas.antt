-- What holds of all values of an operand stack holds of those of a rearranged one: it has no new names.
use Rattle.std.proofs.Common.{ℕ, zero, suc, Bool, true, false, List, [], ◌∷◌, ◌++◌, Option, Some, None}
use Rattle.std.proofs.Common.{◌-◌}
use Rattle.std.specs.Prelude.{nat_le, if◌then◌else◌, option_map, option_and_then}
use Rattle.std.specs.Option.{IfSome}
use Rattle.vm_state.specs.declared.value.Value.{Value}
use Rattle.std.specs.List.{AllByRecursion}
use Rattle.vm_state.specs.Values.{places}
use Rattle.vm_state.specs.Operands.{OperandStack, pushed, top, top_of, rest, rest_of, dropped, all_pushed}
use Rattle.bytecode.specs.declared.operand.StackOperation.{StackOperation}
use Rattle.bytecode.specs.declared.operand.StackOperation.TheVariants.{Pop, Pop2, Dup, DupX1, DupX2, Dup2}
use Rattle.bytecode.specs.declared.operand.StackOperation.TheVariants.{Dup2X1, Dup2X2, Swap}
use Rattle.frame_instructions.specs.declared.stack_management.Places.{Places}
use Rattle.frame_instructions.specs.declared.stack_management.Places.TheVariants.{One, Two}
use Rattle.frame_instructions.specs.declared.stack_management.Group.{Group}
use Rattle.frame_instructions.specs.declared.stack_management.Group.TheVariants.{Single, Pair}
use Rattle.frame_instructions.specs.Rearranging.{values_of, is_category_1, where_category_1, group_of, without}
use Rattle.frame_instructions.specs.Rearranging.{removed, doubled, with_two, put_under, doubled_under, put_back}
use Rattle.frame_instructions.specs.Rearranging.{rearranged}

and_then_such : {A B : Type 0} (Q : A → Type 0) (R : B → Type 0) (o : Option A) (go : A → Option B) →
    IfSome o Q → ((a : A) → Q a → IfSome (go a) R) → IfSome (option_and_then go o) R
and_then_such Q R None go q h = tt
and_then_such Q R (Some a) go q h = h a q

map_such : {A B : Type 0} (Q : A → Type 0) (R : B → Type 0) (o : Option A) (f : A → B) →
    IfSome o Q → ((a : A) → Q a → R (f a)) → IfSome (option_map f o) R
map_such Q R None f q h = tt
map_such Q R (Some a) f q h = h a q

either_such : {A : Type 0} (R : A → Type 0) (b : Bool) (x y : Option A) →
    IfSome x R → IfSome y R → IfSome (if b then x else y) R
either_such R true x y hx hy = hx
either_such R false x y hx hy = hy

module _ (Q : Value → Type 0) where
  abbrev All : List Value → Type 0
  All vs = AllByRecursion Q vs

  top_has : (s : OperandStack) → All s.values → IfSome (top s) Q
  unfolding top
  top_has s h = first s.values h where
    first : (vs : List Value) → All vs → IfSome (top_of vs) Q
    first [] h = tt
    first (v ∷ vs) h = h.0

  rest_has : (s : OperandStack) → All s.values → All (rest s).values
  unfolding rest
  rest_has s h = others s.values h where
    others : (vs : List Value) → All vs → All (rest_of vs s.free).values
    others [] h = tt
    others (v ∷ vs) h = h.1

  pushed_has : (v : Value) (s : OperandStack) → Q v → All s.values → IfSome (pushed v s) (λ t. All t.values)
  unfolding pushed
  pushed_has v s hv hs = room (nat_le (places v) s.free) where
    more : OperandStack
    more = record { free = s.free - places v; values = v ∷ s.values }

    room : (b : Bool) → IfSome (if b then Some more else None) (λ t. All t.values)
    room true = (hv, hs)
    room false = tt

  abbrev KnowsStack : OperandStack → Type 0
  KnowsStack s = All s.values

  abbrev KnowsGroup : Group → Type 0
  KnowsGroup g = All (values_of g)

  dropped_known : (n : ℕ) (s : OperandStack) → KnowsStack s → KnowsStack (dropped n s)
  dropped_known zero s h = h
  dropped_known (suc n) s h = dropped_known n (rest s) (rest_has s h)

  without_known : (g : Group) (s : OperandStack) → KnowsStack s → KnowsStack (without g s)
  without_known (Single a) s h = dropped_known 1 s h
  without_known (Pair b a) s h = dropped_known 2 s h

  all_known : (vs : List Value) (s : OperandStack) →
      All vs → KnowsStack s → IfSome (all_pushed vs s) KnowsStack
  unfolding all_pushed
  all_known [] s hv hs = hs
  all_known (v ∷ vs) s hv hs =
      and_then_such KnowsStack KnowsStack (pushed v s) (all_pushed vs) (pushed_has v s hv.0 hs)
      (λ t ht. all_known vs t hv.1 ht)

  append_known : (vs ws : List Value) → All vs → All ws → All (vs ++ ws)
  append_known [] ws hv hw = hw
  append_known (v ∷ vs) ws hv hw = (hv.0, append_known vs ws hv.1 hw)

  category_1_known : (o : Option Value) (go : Value → Option Group) → IfSome o Q →
      ((a : Value) → Q a → IfSome (go a) KnowsGroup) → IfSome (where_category_1 o go) KnowsGroup
  category_1_known o go ho h =
      and_then_such Q KnowsGroup o _ ho
      (λ a ka. either_such KnowsGroup (is_category_1 a) (go a) None (h a ka) tt)

  group_known : (p : Places) (s : OperandStack) → KnowsStack s → IfSome (group_of p s) KnowsGroup
  unfolding group_of
  group_known One s hs = category_1_known (top s) (λ a. Some (Single a)) (top_has s hs) (λ a ka. (ka, tt))
  group_known Two s hs =
      and_then_such Q KnowsGroup (top s) _ (top_has s hs) (λ a ka.
      either_such KnowsGroup (is_category_1 a)
      (where_category_1 (top (rest s)) (λ b. Some (Pair b a))) (Some (Single a))
      (category_1_known (top (rest s)) (λ b. Some (Pair b a)) (top_has (rest s) (rest_has s hs))
      (λ b kb. (kb, (ka, tt))))
      (ka, tt))

  module _ (s : OperandStack) (hs : KnowsStack s) where
    removed_known : (p : Places) → IfSome (removed p s) KnowsStack
    removed_known p =
        map_such KnowsGroup KnowsStack (group_of p s) _ (group_known p s hs) (λ g hg. without_known g s hs)

    doubled_known : (p : Places) → IfSome (doubled p s) KnowsStack
    doubled_known p =
        and_then_such KnowsGroup KnowsStack (group_of p s) _ (group_known p s hs)
        (λ g hg. all_known (values_of g) s hg hs)

    abbrev Keeps : (Group → Group → OperandStack → Option OperandStack) → Type 0
    Keeps go =
        (g h : Group) → KnowsGroup g → KnowsGroup h →
        KnowsStack (without h (without g s)) → IfSome (go g h s) KnowsStack

    two_known : (p q : Places) (go : Group → Group → OperandStack → Option OperandStack) → Keeps go →
        IfSome (with_two p q go s) KnowsStack
    two_known p q go keeps =
        and_then_such KnowsGroup KnowsStack (group_of p s) _ (group_known p s hs) (λ g hg.
        let ht : KnowsStack (without g s) = without_known g s hs in
        and_then_such KnowsGroup KnowsStack (group_of q (without g s)) _ (group_known q (without g s) ht)
        (λ h hh. keeps g h hg hh (without_known h (without g s) ht)))

    put_under_known : Keeps put_under
    put_under_known g h hg hh ht =
        let both = append_known (values_of g) (values_of h) hg hh in
        let all = append_known (values_of g ++ values_of h) (values_of g) both hg in
        all_known (values_of g ++ values_of h ++ values_of g) (without h (without g s)) all ht

    put_back_known : Keeps put_back
    put_back_known g h hg hh ht =
        let both = append_known (values_of g) (values_of h) hg hh in
        all_known (values_of g ++ values_of h) (without h (without g s)) both ht

    under_known : (p q : Places) → IfSome (doubled_under p q s) KnowsStack
    under_known p q = two_known p q put_under put_under_known

    pub rearranged_has : (op : StackOperation) → IfSome (rearranged op s) KnowsStack
    rearranged_has Pop = removed_known One
    rearranged_has Pop2 = removed_known Two
    rearranged_has Dup = doubled_known One
    rearranged_has DupX1 = under_known One One
    rearranged_has DupX2 = under_known One Two
    rearranged_has Dup2 = doubled_known Two
    rearranged_has Dup2X1 = under_known Two One
    rearranged_has Dup2X2 = under_known Two Two
    rearranged_has Swap = two_known One One put_back put_back_known
