-- The toy machine stays within what its code says, instruction by instruction: that what is asked of bounds can be met.
use Rattle.std.proofs.Common.{◌≡◌, ℕ, true, if◌then◌else◌, List, [], Option, Some, None, refl}
use Rattle.std.proofs.Common.{option_and_then, slice_get}
use Rattle.vm_state.specs.declared.value.Value.{Value}
use Rattle.vm_state.specs.declared.value.Name.{Name}
use Rattle.built_in.specs.declared.class_id.ClassId.{ClassId}
use Rattle.built_in.specs.declared.class_id.ClassId.TheVariants.{Given}
use Rattle.vm_state.specs.declared.ends.FaultKind.TheVariants.{Fault, Missing}
use Rattle.vm_state.specs.declared.frame.Frame.{Frame}
use Rattle.vm_state.specs.declared.frame.Activity.{Activity}
use Rattle.vm_state.specs.declared.frame.Activity.TheVariants.{Start, Method}
use Rattle.vm_state.specs.Operands.{OperandStack, top, top_int, rest, pushed}
use Rattle.vm_state.specs.Locals.{held}
use Rattle.semantics.specs.Rows.{Part, Slots, Length, Move, Becomes, Calls, Row, Next, Ends}
use Rattle.semantics.specs.Quiet.{declared_final}
use Rattle.semantics.specs.Bounds.{Scope, nothing, Bounds, IsInScope, IsBounded}
use Rattle.semantics.proofs.ToyMachine as toys
use Rattle.semantics.proofs.ToyMachine.{Code, needing, goes_on, on_object, in_slot}
use Rattle.semantics.proofs.ToyMachine.{method_frame, unless_initializer, enters, calls}
use Rattle.semantics.proofs.ToyMachine.{Instruction, may_write, instruction_row, start_row, active_row, toy_row}
use Rattle.semantics.proofs.ToyMachine.{fails_by, toy}
use Rattle.semantics.proofs.ToyParts.{Admits, needing_holds, choice_holds, class_holds, object_holds, slot_holds}
use Rattle.semantics.proofs.ToyParts.{length_holds}

-- ---- what the code says

abbrev callee_unless : ℕ → Option ℕ → Option Activity
callee_unless m None = Some (Method 0 m)
callee_unless m (Some c) = None

-- a method is called unless it is a class initialization method
abbrev callee : Code → ℕ → Option Activity
callee p m = callee_unless m (p.initialized m)

abbrev in_class : ℕ → Scope
in_class c = record nothing { needs = Some c }

abbrev instruction_scope : Code → Instruction → Scope
instruction_scope p (toys.GetStatic c k) =
    record nothing { needs = Some c; reads = if declared_final (slice_get (p.statics c) k) then None else Some c }
instruction_scope p (toys.PutStatic c k) = record nothing { needs = Some c; writes = Some c }
instruction_scope p (toys.New c) = in_class c
instruction_scope p (toys.InvokeStatic c m) = record nothing { needs = Some c; calls = λ class. callee p m }
instruction_scope p (toys.InvokeVirtual m) =
    record nothing { calls = λ class. option_and_then (callee p) (p.selected class m) }
instruction_scope p toys.MonitorEnter = record nothing { locks = true }
instruction_scope p toys.MonitorExit = record nothing { locks = true }
instruction_scope p toys.PrintInt = record nothing { prints = true }
instruction_scope p _ = nothing

abbrev scope_if : Code → Option Instruction → Scope
scope_if p None = nothing
scope_if p (Some i) = instruction_scope p i

abbrev pub toy_bounds : Code → Bounds
toy_bounds p (Start c) place = record nothing { needs = Some c; calls = λ class. option_and_then (callee p) (p.main c) }
toy_bounds p (Method c m) place = scope_if p (slice_get (p.body m) place)

-- ---- rows stay within it

-- where the callee is the same for all
abbrev any_class : ClassId
any_class = Given 0

module _ (p : Code) where
  module _ (scope : Scope) where
    abbrev Suits : Row → Type 0
    Suits row = IsInScope (toy p) scope row

    admits : Admits Suits
    admits = record { halting = λ kind. tt; raising = λ class x. tt }

    enters_within : (m : ℕ) (locals : List (Option Value)) (how : Frame → Move) →
        (callee p m ≡ Some (Method 0 m) → Suits (Ends (Next (how (method_frame p locals m)))))
        → Suits (enters p m locals how)
    enters_within m locals how on = unless (p.initialized m) refl
      where
        unless : (o : Option ℕ) → p.initialized m ≡ o
            → Suits (unless_initializer o (Ends (Next (how (method_frame p locals m)))))
        unless None e = on (rw e refl)
        unless (Some c) e = tt

    goes_within : (f : Frame) (o : Option OperandStack) → Suits (goes_on f o)
    goes_within f None = tt
    goes_within f (Some s) = tt

    value_within : {A : Type 0} (o : Option A) (go : A → Row) → ((a : A) → Suits (go a)) → Suits (needing Fault o go)
    value_within o go h = needing_holds admits Fault o go (λ a e. h a)

    object_within : (o : Option Value) (go : Name → Row) → ((x : Name) → Suits (go x)) → Suits (on_object o go)
    object_within o go h = object_holds admits o go (λ x e. h x)

    slot_within : (x : Name) (part : Part) (i : ℕ) (go : Value → Row) → ((v : Value) → Suits (go v))
        → Suits (in_slot x part i go)
    slot_within x part i go h o = slot_holds admits o i go (λ slots v e at. h v)

  instruction_within : (f : Frame) (i : Instruction) → IsInScope (toy p) (instruction_scope p i) (instruction_row p i f)
  instruction_within f (toys.PushInt n) = goes_within nothing f _
  instruction_within f (toys.Load i) =
      value_within nothing (held (slice_get f.locals i)) (λ v. goes_on f (pushed v f.operands))
      (λ v. goes_within nothing f (pushed v f.operands))
  instruction_within f (toys.GetStatic c k) =
      let scope = instruction_scope p (toys.GetStatic c k) in
      (refl, λ b. class_holds (admits scope) b _ (refl, λ plain. rw plain refl, λ v. goes_within scope f _))
  instruction_within f (toys.PutStatic c k) =
      let scope = instruction_scope p (toys.PutStatic c k) in
      choice_holds (admits scope) (may_write p f.activity c k) _ _
      (λ may. (
        refl,
        λ b. class_holds (admits scope) b _
            (value_within scope (top f.operands) _ (λ v. (refl, refl, tt))),
      )) tt
  instruction_within f (toys.New c) =
      let scope = instruction_scope p (toys.New c) in
      (refl, λ b. class_holds (admits scope) b _ (λ x. goes_within scope f _))
  instruction_within f toys.NewArray =
      value_within nothing (top_int f.operands) _
      (λ n. length_holds (admits nothing) n _ (λ count x. goes_within nothing f _))
  instruction_within f (toys.GetField i) =
      object_within nothing (top f.operands) _ (λ x. slot_within nothing x Slots i _ (λ v. goes_within nothing f _))
  instruction_within f (toys.PutField i) =
      value_within nothing (top f.operands) _
      (λ v. object_within nothing (top (rest f.operands)) _
      (λ x. slot_within nothing x Slots i _ (λ old. tt)))
  instruction_within f toys.ArrayLength =
      object_within nothing (top f.operands) _ (λ x. slot_within nothing x Length 0 _ (λ v. goes_within nothing f _))
  instruction_within f (toys.InvokeStatic c m) =
      let scope = instruction_scope p (toys.InvokeStatic c m) in
      (refl, λ b. class_holds (admits scope) b _ (enters_within scope m [] (Calls f.operands) (λ is. (any_class, is))))
  instruction_within f (toys.InvokeVirtual m) =
      let scope = instruction_scope p (toys.InvokeVirtual m) in
      object_within scope (top f.operands) _ (λ x o. value_within scope o _
      (λ class. needing_holds (admits scope) Missing (p.selected class m) _
      (λ n e. enters_within scope n _ (Calls (rest f.operands)) (λ is. (class, rw e is)))))
  instruction_within f toys.MonitorEnter =
      let scope = instruction_scope p toys.MonitorEnter in
      object_within scope (top f.operands) _
      (λ x. (refl, λ done. choice_holds (admits scope) done _ _ (λ e. tt) tt))
  instruction_within f toys.MonitorExit =
      let scope = instruction_scope p toys.MonitorExit in
      object_within scope (top f.operands) _
      (λ x. (refl, λ done. choice_holds (admits scope) done _ _ (λ e. tt) (λ y. tt)))
  instruction_within f toys.Throw =
      object_within nothing (top f.operands) _ (λ x o. value_within nothing o _ (λ class. tt))
  instruction_within f toys.PrintInt =
      let scope = instruction_scope p toys.PrintInt in
      value_within scope (top_int f.operands) _ (λ n. (refl, tt))
  instruction_within f toys.Return = tt
  instruction_within f toys.ReturnTop = value_within nothing (top f.operands) _ (λ v. tt)

  active_within : (f : Frame) (a : Activity) → IsInScope (toy p) (toy_bounds p a f.place) (active_row p a f)
  active_within f (Start c) =
      let scope = toy_bounds p (Start c) f.place in (
        refl,
        λ b. class_holds (admits scope) b _ (needing_holds (admits scope) Missing (p.main c) _
            (λ m e. value_within scope (top f.operands) _
            (λ v. enters_within scope m _ Becomes (λ is. (any_class, rw e is))))),
      )
  active_within f (Method c m) = by_place (slice_get (p.body m) f.place)
    where
      by_place : (o : Option Instruction) → IsInScope (toy p) (scope_if p o)
          (needing Fault o (λ i. instruction_row p i f))
      by_place None = tt
      by_place (Some i) = instruction_within f i

  failing_within : (x : Name) (o : Option ClassId) → IsInScope (toy p) nothing (needing Fault o (fails_by p x))
  failing_within x o =
      value_within nothing o (fails_by p x)
      (λ class. choice_holds (admits nothing) (p.is_error class) _ _ (λ e. tt) (λ y. tt))

pub toy_is_bounded : (p : Code) → IsBounded (toy p) (toy_bounds p)
toy_is_bounded p = record {
  row = λ f. active_within p f f.activity;
  failing = λ c x o. failing_within p x o;
  orphaned = λ c x. tt;
}
