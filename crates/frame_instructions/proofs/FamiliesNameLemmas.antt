-- No family makes up a name.
use Rattle.std.proofs.Common.{ℕ, Option, Some, None}
use Rattle.std.specs.declared.result.Result.{Result}
use Rattle.std.specs.List.{AllByRecursion}
use Rattle.std.specs.Option.{IfSome}
use Rattle.std.specs.Result.{IfOk}
use Rattle.vm_state.specs.declared.value.Value.{Value}
use Rattle.vm_state.specs.declared.value.Value.TheVariants as values
use Rattle.vm_state.specs.declared.value.Name.{Name}
use Rattle.vm_state.specs.declared.frame.Frame.{Frame}
use Rattle.vm_state.specs.Values.{int_of}
use Rattle.vm_state.specs.Operands.{OperandStack, pushed, top, top_int, top_long, rest}
use Rattle.vm_state.specs.Locals.{value_at, stored}
use Rattle.semantics.specs.Lawful.{HoldsOfFrame}
use Rattle.semantics.specs.Moves.{with_operands}
use Rattle.semantics.proofs.KeptLemmas.{IsKept, names_kept}
use Rattle.frame_instructions.specs.declared.operand_kind.OperandKind.TheVariants.{Reference}
use Rattle.frame_instructions.specs.declared.trap.Trap.{Trap}
use Rattle.frame_instructions.specs.declared.arithmetic.Computed.{Computed}
use Rattle.frame_instructions.specs.declared.arithmetic.Computed.TheVariants as computed
use Rattle.frame_instructions.specs.OperandKinds.{as_kind, top_as}
use Rattle.frame_instructions.specs.Completion.{given, giving, pushes, jumps}
use Rattle.frame_instructions.specs.Families.{Local, Nothing, Push, PushNull, OnInt, OnLong, OnInts, OnLongs, OnLongInt}
use Rattle.frame_instructions.specs.Families.{Load, Store, Update, Rearrange, IfInt, IfInts, IfReference, IfReferences}
use Rattle.frame_instructions.specs.Families.{Goto, Switch, leads_to, stores, local_after}
use Rattle.frame_instructions.specs.Laws.{LocalNames}
use Rattle.frame_instructions.specs.Rearranging.{rearranged}
use Rattle.frame_instructions.proofs.RearrangingLemmas.{rearranged_has}
use Rattle.frame_instructions.proofs.LawsFrameLemmas.{HoldsOfLocals, top_has, rest_has, pushed_has, as_kind_has}
use Rattle.frame_instructions.proofs.LawsFrameLemmas.{value_has, stored_has}

-- ---- what holds of all that an instruction leads to

module _ (P : Frame → Type 0) where
  pub given_any : {A : Type 0} (o : Option A) (go : A → Result Frame Trap) →
      ((a : A) → IfOk (go a) P) → IfOk (given o go) P
  given_any None go h = tt
  given_any (Some a) go h = h a

  given_such : {A : Type 0} (Q : A → Type 0) (o : Option A) (go : A → Result Frame Trap) →
      IfSome o Q → ((a : A) → Q a → IfOk (go a) P) → IfOk (given o go) P
  given_such Q None go q h = tt
  given_such Q (Some a) go q h = h a q

-- ---- what holds of all values of a frame

module _ {N : Name → Type 0} {Q : Value → Type 0} (kept : IsKept N Q) where
  abbrev Kept : Result Frame Trap → Type 0
  Kept r = IfOk r (HoldsOfFrame Q)

  number_any : (number : Computed) (go : Value → Result Frame Trap) →
      ((v : Value) → Q v → Kept (go v)) → Kept (giving number go)
  number_any (computed.Int n) go h = h (values.Int n) (kept.int n)
  number_any (computed.Long n) go h = h (values.Long n) (kept.long n)
  number_any (computed.Raise class) go h = tt

  module _ (f : Frame) (h : HoldsOfFrame Q f) where
    one_less : AllByRecursion Q (rest f.operands).values
    one_less = rest_has Q f.operands h.0

    two_less : AllByRecursion Q (rest (rest f.operands)).values
    two_less = rest_has Q (rest f.operands) one_less

    any : {A : Type 0} (o : Option A) (go : A → Result Frame Trap) → ((a : A) → Kept (go a)) → Kept (given o go)
    any o go = given_any (HoldsOfFrame Q) o go

    such : {A : Type 0} (R : A → Type 0) (o : Option A) (go : A → Result Frame Trap) →
        IfSome o R → ((a : A) → R a → Kept (go a)) → Kept (given o go)
    such R o go = given_such (HoldsOfFrame Q) R o go

    -- ---- on a stack of known names

    module _ (s : OperandStack) (hs : AllByRecursion Q s.values) where
      pushes_kept : (v : Value) → Q v → Kept (pushes f s v)
      pushes_kept v hv =
          such (λ t. AllByRecursion Q t.values) (pushed v s) _ (pushed_has Q v s hv hs) (λ t ht. (ht, h.1))

      puts_kept : (number : Computed) → Kept (giving number (pushes f s))
      puts_kept number = number_any number (pushes f s) pushes_kept

      jumps_kept : (to : Option ℕ) → Kept (jumps (with_operands f s) to)
      jumps_kept to = any to _ (λ place. (hs, h.1))

      stores_kept : (at : ℕ) (v : Value) → Q v → Kept (stores (with_operands f s) at v)
      stores_kept at v hv =
          such (HoldsOfLocals Q) (stored f.locals at v) _ (stored_has Q f.locals at v h.1 hv)
          (λ l hl. (hs, hl))

    -- ---- after one operand, or two

    puts_one : {A : Type 0} (o : Option A) (op : A → Computed) →
        Kept (given o (λ a. giving (op a) (pushes f (rest f.operands))))
    puts_one o op = any o _ (λ a. puts_kept (rest f.operands) one_less (op a))

    puts_two : {A B : Type 0} (o : Option A) (p : Option B) (op : B → A → Computed) →
        Kept (given o (λ b. given p (λ a. giving (op a b) (pushes f (rest (rest f.operands))))))
    puts_two o p op = any o _ (λ b. any p _ (λ a. puts_kept (rest (rest f.operands)) two_less (op a b)))

    jumps_one : {A : Type 0} (o : Option A) (to : A → Option ℕ) →
        Kept (given o (λ a. jumps (with_operands f (rest f.operands)) (to a)))
    jumps_one o to = any o _ (λ a. jumps_kept (rest f.operands) one_less (to a))

    jumps_two : {A B : Type 0} (o : Option A) (p : Option B) (to : B → A → Option ℕ) →
        Kept (given o (λ b. given p (λ a. jumps (with_operands f (rest (rest f.operands))) (to a b))))
    jumps_two o p to = any o _ (λ b. any p _ (λ a. jumps_kept (rest (rest f.operands)) two_less (to a b)))

    -- ---- the families

    pub local_kept : (i : Local) → Kept (local_after i f)
    local_kept Nothing = h
    local_kept (Push number) = puts_kept f.operands h.0 number
    local_kept PushNull = pushes_kept f.operands h.0 values.Null kept.null
    local_kept (OnInt op) = puts_one (top_int f.operands) op
    local_kept (OnLong op) = puts_one (top_long f.operands) op
    local_kept (OnInts op) = puts_two (top_int f.operands) (top_int (rest f.operands)) op
    local_kept (OnLongs op) = puts_two (top_long f.operands) (top_long (rest f.operands)) op
    local_kept (OnLongInt op) = puts_two (top_int f.operands) (top_long (rest f.operands)) op
    local_kept (Load kind at) =
        such Q (as_kind kind (value_at f.locals at)) _
        (as_kind_has Q kind (value_at f.locals at) (value_has Q f.locals at h.1))
        (pushes_kept f.operands h.0)
    local_kept (Store kind at) =
        such Q (top_as kind f.operands) _
        (as_kind_has Q kind (top f.operands) (top_has Q f.operands h.0))
        (stores_kept (rest f.operands) one_less at)
    local_kept (Update at op) =
        any (int_of (value_at f.locals at)) _ (λ n. number_any (op n) _ (stores_kept f.operands h.0 at))
    local_kept (Rearrange op) =
        such (λ t. AllByRecursion Q t.values) (rearranged op f.operands) _
        (rearranged_has Q f.operands h.0 op) (λ t ht. (ht, h.1))
    local_kept (IfInt test to) = jumps_one (top_int f.operands) (λ a. leads_to (test a) to f)
    local_kept (IfInts test to) =
        jumps_two (top_int f.operands) (top_int (rest f.operands)) (λ a b. leads_to (test a b) to f)
    local_kept (IfReference test to) = jumps_one (top_as Reference f.operands) (λ a. leads_to (test a) to f)
    local_kept (IfReferences test to) =
        jumps_two (top_as Reference f.operands) (top_as Reference (rest f.operands)) (λ a b. leads_to (test a b) to f)
    local_kept (Goto to) = jumps_kept f.operands h.0 to
    local_kept (Switch target) = jumps_one (top_int f.operands) target

pub local_names_lem : LocalNames
local_names_lem known i f h = local_kept (names_kept known) f h i
