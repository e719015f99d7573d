-- No instruction of the toy machine makes up a name or writes a final that it may not write; nor does a class that
-- fails.
use Rattle.std.proofs.Common.{◌≡◌, ℕ, zero, suc, pos, Bool, true, false, List, [], ◌∷◌, Option, Some, None}
use Rattle.std.proofs.Common.{option_and_then, slice_get, replicate, subst, refl, sym, ◌∙◌, not, ◌||◌, eqb-true}
use Rattle.semantics.specs.Quiet.{is_final}
use Rattle.std.specs.List.{AllByRecursion}
use Rattle.vm_state.specs.declared.value.Value.{Value}
use Rattle.vm_state.specs.declared.value.Value.TheVariants.{Int}
use Rattle.vm_state.specs.declared.value.Name.{Name}
use Rattle.built_in.specs.declared.class_id.ClassId.{ClassId}
use Rattle.vm_state.specs.declared.ends.FaultKind.TheVariants.{Fault, Missing}
use Rattle.vm_state.specs.declared.frame.Frame.{Frame}
use Rattle.vm_state.specs.declared.frame.Activity.{Activity}
use Rattle.vm_state.specs.declared.frame.Activity.TheVariants.{Start, Method}
use Rattle.vm_state.specs.Values.{value_of, name_of}
use Rattle.vm_state.specs.Operands.{OperandStack, top_of, rest_of, pushed, top, top_int, rest}
use Rattle.vm_state.specs.Locals.{held}
use Rattle.semantics.specs.Rows.{Part, Slots, Length, Move, Becomes, Calls, Row, Next, Ends}
use Rattle.semantics.specs.Lawful.{Names, KnowsName, Knows, KnowsAll, KnowsSome, KnowsSlots, KnowsFrame}
use Rattle.semantics.specs.Lawful.{OwnsFrame, Fits}
use Rattle.semantics.proofs.FrameMovesLemmas.{pushed_known, name_known}
use Rattle.semantics.proofs.ToyMachine as toys
use Rattle.semantics.proofs.ToyMachine.{Code, needing, goes_on, on_object, in_slot}
use Rattle.semantics.proofs.ToyMachine.{method_frame, unless_initializer, enters, calls}
use Rattle.semantics.proofs.ToyMachine.{Instruction, may_write, instruction_row, start_row, active_row, toy_row}
use Rattle.semantics.proofs.ToyMachine.{is_of, fails_by, toy}
use Rattle.semantics.proofs.ToyParts.{Admits, needing_holds, choice_holds, class_holds, object_holds, slot_holds}
use Rattle.semantics.proofs.ToyParts.{length_holds}

all_at : {A : Type 0} (P : A → Type 0) (xs : List A) (i : ℕ) (x : A) → AllByRecursion P xs → slice_get xs i ≡ Some x
    → P x
all_at P [] i x h e = cc
all_at P (y ∷ ys) zero x h e = let same : y ≡ x = cc in subst P same h.0
all_at P (y ∷ ys) (suc i) x h e = all_at P ys i x h.1 e

module _ (p : Code) (known : Names) (own : ℕ → Bool) where
  abbrev Suits : Row → Type 0
  Suits row = Fits (toy p) known own row

  -- ---- values

  known_name : (o : Option Value) (x : Name) → KnowsSome known o → option_and_then name_of o ≡ Some x → known x ≡ true
  known_name None x h e = cc
  known_name (Some v) x h e = subst (KnowsName known) e h

  KnowsAll-zeros : (n : ℕ) → KnowsAll known (replicate n (Int (pos 0)))
  KnowsAll-zeros zero = tt
  KnowsAll-zeros (suc n) = (tt, KnowsAll-zeros n)

  Knows-local : (locals : List (Option Value)) (i : ℕ) →
      AllByRecursion (KnowsSome known) locals → KnowsSome known (held (slice_get locals i))
  Knows-local [] i h = tt
  Knows-local (o ∷ os) zero h = h.0
  Knows-local (o ∷ os) (suc i) h = Knows-local os i h.1

  -- ---- operand stacks

  Knows-top : (s : OperandStack) → KnowsAll known s.values → KnowsSome known (top s)
  unfolding top
  Knows-top s h = of s.values h
    where
      of : (vs : List Value) → KnowsAll known vs → KnowsSome known (top_of vs)
      of [] h = tt
      of (v ∷ vs) h = h.0

  KnowsAll-rest : (s : OperandStack) → KnowsAll known s.values → KnowsAll known (rest s).values
  unfolding rest
  KnowsAll-rest s h = of s.values s.free h
    where
      of : (vs : List Value) (free : ℕ) → KnowsAll known vs → KnowsAll known (rest_of vs free).values
      of [] free h = tt
      of (v ∷ vs) free h = h.1

  -- the values of a stack, where there is one
  abbrev KnowsStack : Option OperandStack → Type 0
  KnowsStack None = Unit {0}
  KnowsStack (Some s) = KnowsAll known s.values

  KnowsStack-pushed : (v : Value) (s : OperandStack) → Knows known v → KnowsAll known s.values → KnowsStack (pushed v s)
  KnowsStack-pushed v s hv h = by_room (pushed v s) refl
    where
      by_room : (o : Option OperandStack) → pushed v s ≡ o → KnowsStack o
      by_room None is = tt
      by_room (Some r) is = pushed_known known v s r hv h is

  -- ---- parts of rows

  admits : Admits Suits
  admits = record { halting = λ kind. (tt, tt); raising = λ class. (tt, λ x hx. (hx, tt)) }

  value_keeps : (o : Option Value) (go : Value → Row) →
      KnowsSome known o → ((v : Value) → Knows known v → Suits (go v)) → Suits (needing Fault o go)
  value_keeps o go k h = needing_holds admits Fault o go (λ v e. h v (subst (KnowsSome known) e k))

  object_keeps : (o : Option Value) (go : Name → Row) →
      KnowsSome known o → ((x : Name) → known x ≡ true → Suits (go x)) → Suits (on_object o go)
  object_keeps o go k h = object_holds admits o go (λ x e. h x (known_name o x k e))

  in_slot_keeps : (x : Name) (part : Part) (i : ℕ) (go : Value → Row) →
      known x ≡ true → ((v : Value) → Knows known v → Suits (go v)) → Suits (in_slot x part i go)
  in_slot_keeps x part i go hx h = (
    hx,
    λ o ho. slot_holds admits o i go
        (λ slots v e at. h v (all_at (Knows known) slots i v (subst (KnowsSlots known) e ho) at)),
  )

  owned_where_final : (final : Bool) (o : Option ℕ) (c : ℕ) →
      (not final || is_of o c) ≡ true → ((d : ℕ) → o ≡ Some d → own d ≡ true) → final ≡ true → own c ≡ true
  owned_where_final false o c e h is_so = cc
  owned_where_final true None c e h is_so = cc
  owned_where_final true (Some d) c e h is_so = rw (← eqb-true d c e) (h d refl)

  -- what an outcome puts into place is known and owned, where the frame that it puts there is
  abbrev Puts : (Frame → Move) → Type 0
  Puts how = (g : Frame) → KnowsFrame known g → OwnsFrame (toy p) own g → Suits (Ends (Next (how g)))

  enters_keeps : (m : ℕ) (locals : List (Option Value)) (how : Frame → Move) → AllByRecursion (KnowsSome known) locals
      → Puts how →
      Suits (enters p m locals how)
  enters_keeps m locals how h k = unless (p.initialized m) refl
    where
      unless : (o : Option ℕ) → p.initialized m ≡ o
          → Suits (unless_initializer o (Ends (Next (how (method_frame p locals m)))))
      unless None e = k (method_frame p locals m) (tt, h) (λ c is. (let clash : None ≡ Some c = sym e ∙ is in cc))
      unless (Some c) e = (tt, tt)

  -- ---- instructions

  module _ (f : Frame) (h : KnowsFrame known f) (ho : OwnsFrame (toy p) own f) where
    goes_on_keeps : (o : Option OperandStack) → KnowsStack o → Suits (goes_on f o)
    goes_on_keeps None k = (tt, tt)
    goes_on_keeps (Some s) k = ((k, h.1), tt)

    pushed_keeps : (v : Value) (s : OperandStack) → Knows known v → KnowsAll known s.values
        → Suits (goes_on f (pushed v s))
    pushed_keeps v s hv k = goes_on_keeps _ (KnowsStack-pushed v s hv k)

    name_keeps : (x : Name) (s : OperandStack) →
        known x ≡ true → KnowsAll known s.values → Suits (goes_on f (pushed (value_of x) s))
    name_keeps x s hx k = pushed_keeps (value_of x) s (name_known known x hx) k

    below : KnowsAll known (rest f.operands).values
    below = KnowsAll-rest f.operands h.0

    below_two : KnowsAll known (rest (rest f.operands)).values
    below_two = KnowsAll-rest (rest f.operands) below

    without_top_keeps : Suits (goes_on f (Some (rest f.operands)))
    without_top_keeps = goes_on_keeps (Some (rest f.operands)) below

    top_value_keeps : (go : Value → Row) →
        ((v : Value) → Knows known v → Suits (go v)) → Suits (needing Fault (top f.operands) go)
    top_value_keeps go k = value_keeps (top f.operands) go (Knows-top f.operands h.0) k

    top_object_keeps : (go : Name → Row) →
        ((x : Name) → known x ≡ true → Suits (go x)) → Suits (on_object (top f.operands) go)
    top_object_keeps go k = object_keeps (top f.operands) go (Knows-top f.operands h.0) k

    calls_keeps : (m : ℕ) (class : ClassId) (x : Name) → known x ≡ true → Suits (calls p m f x class)
    calls_keeps m class x hx =
        needing_holds admits Missing (p.selected class m) _
        (λ n e. enters_keeps n _ (Calls (rest f.operands)) (name_known known x hx, tt) (λ g k o. ((below, k), o)))

    instruction_keeps : ((c : ℕ) → KnowsAll known (p.slots c)) → (i : Instruction) → Suits (instruction_row p i f)
    instruction_keeps slots (toys.PushInt n) = pushed_keeps _ _ tt h.0
    instruction_keeps slots (toys.Load i) =
        value_keeps _ _ (Knows-local f.locals i h.1) (λ v hv. pushed_keeps v _ hv h.0)
    instruction_keeps slots (toys.GetStatic c k) = λ b. class_holds admits b _ (λ v hv. pushed_keeps v _ hv h.0)
    instruction_keeps slots (toys.PutStatic c k) =
        choice_holds admits (may_write p f.activity c k) _ _
        (λ may b. class_holds admits b _ (top_value_keeps _ (λ v hv.
        (hv, owned_where_final (is_final (toy p) c k) _ c may ho, without_top_keeps)))) (tt, tt)
    instruction_keeps slots (toys.New c) = λ b. class_holds admits b _ (slots c, λ x hx. name_keeps x _ hx h.0)
    instruction_keeps slots toys.NewArray =
        needing_holds admits Fault (top_int f.operands) _
        (λ n e. length_holds admits n _ (λ count. (KnowsAll-zeros count, λ x hx. name_keeps x _ hx below)))
    instruction_keeps slots (toys.GetField i) =
        top_object_keeps _ (λ x hx. in_slot_keeps x Slots i _ hx (λ v hv. pushed_keeps v _ hv below))
    instruction_keeps slots (toys.PutField i) =
        top_value_keeps _
        (λ v hv. object_keeps (top (rest f.operands)) _ (Knows-top (rest f.operands) below)
        (λ x hx. in_slot_keeps x Slots i _ hx
        (λ old ho. (hx, hv, goes_on_keeps (Some (rest (rest f.operands))) below_two))))
    instruction_keeps slots toys.ArrayLength =
        top_object_keeps _ (λ x hx. in_slot_keeps x Length 0 _ hx (λ v hv. pushed_keeps v _ hv below))
    instruction_keeps slots (toys.InvokeStatic c m) =
        λ b. class_holds admits b _ (enters_keeps m [] (Calls f.operands) tt (λ g k o. ((h.0, k), o)))
    instruction_keeps slots (toys.InvokeVirtual m) =
        top_object_keeps _
        (λ x hx. (hx, λ o. needing_holds admits Fault o _ (λ class e. calls_keeps m class x hx)))
    instruction_keeps slots toys.MonitorEnter =
        top_object_keeps _ (λ x hx. (hx, λ done. choice_holds admits done _ _ (λ e. without_top_keeps) (tt, tt)))
    instruction_keeps slots toys.MonitorExit =
        top_object_keeps _
        (λ x hx. (hx, λ done. choice_holds admits done _ _ (λ e. without_top_keeps) (tt, λ y hy. (hy, tt))))
    instruction_keeps slots toys.Throw =
        top_object_keeps _ (λ x hx. (hx, λ o. needing_holds admits Fault o _ (λ class e. (hx, tt))))
    instruction_keeps slots toys.PrintInt = needing_holds admits Fault (top_int f.operands) _ (λ n e. without_top_keeps)
    instruction_keeps slots toys.Return = (tt, tt)
    instruction_keeps slots toys.ReturnTop = top_value_keeps _ (λ v hv. (hv, tt))

    start_keeps : (c : ℕ) → Suits (start_row p c f)
    start_keeps c =
        λ b. class_holds admits b _ (needing_holds admits Missing (p.main c) _
        (λ m e. top_value_keeps _ (λ v hv. enters_keeps m _ Becomes (hv, tt) (λ g k o. (k, o)))))

    active_keeps : ((c : ℕ) → KnowsAll known (p.slots c)) → (activity : Activity) → Suits (active_row p activity f)
    active_keeps slots (Start c) = start_keeps c
    active_keeps slots (Method c m) =
        needing_holds admits Fault (slice_get (p.body m) f.place) (λ i. instruction_row p i f)
        (λ i e. instruction_keeps slots i)

  pub toy_row_keeps : ((c : ℕ) → KnowsAll known (p.slots c)) →
      (f : Frame) → KnowsFrame known f → OwnsFrame (toy p) own f → Suits (toy_row p f)
  toy_row_keeps slots f h ho = active_keeps f h ho slots f.activity

  -- ---- exceptions

  pub fails_by_keeps : (x : Name) (o : Option ClassId) → known x ≡ true → Suits (needing Fault o (fails_by p x))
  fails_by_keeps x o hx =
      needing_holds admits Fault o _
      (λ class e. choice_holds admits (p.is_error class) _ _ (λ e'. (hx, tt))
      ((name_known known x hx, tt), λ y hy. (hy, tt)))
