-- What a move of the innermost frame and an exception leave, in some frames: a call, a returned value, one for which
-- there is no room, a handler's operand stack. And an initializer that is refused for want of such room.
use Rattle.std.proofs.Common.{◌≡◌, ℕ, zero, suc, pos, false, List, [], ◌∷◌, Option, Some, None, refl, arith}
use Rattle.vm_state.specs.declared.value.Value.TheVariants.{Int, Long, OfThread}
use Rattle.vm_state.specs.declared.value.Maker.TheVariants.{Thread}
use Rattle.vm_state.specs.declared.value.Name.{Name}
use Rattle.built_in.specs.declared.class_id.ClassId.{ClassId}
use Rattle.vm_state.specs.declared.ends.End.TheVariants.{Faulted}
use Rattle.vm_state.specs.declared.ends.FaultKind.TheVariants.{Fault}
use Rattle.vm_state.specs.declared.frame.Frame.{Frame}
use Rattle.vm_state.specs.declared.frame.Activity.TheVariants.{Method}
use Rattle.vm_state.specs.declared.initialization.Level.{Level}
use Rattle.vm_state.specs.Operands.{OperandStack, pushed, top, rest}
use Rattle.semantics.specs.Rows.{Next, Calls, Returns, Raise}
use Rattle.semantics.specs.Programs.{Program}
use Rattle.semantics.specs.Quiet.{Environment, Faulted as IsFaulted}
use Rattle.semantics.specs.Settling.{ByStep, ByReturn, NoRoom}
use Rattle.semantics.specs.helpers.Settling.{RefusedBy}
use Rattle.semantics.specs.Steps.{Going, Ended, left_by}
use Rattle.semantics.proofs.ToyMachine.{Instruction, PushInt, InvokeStatic, Return, ReturnTop, Code, toy}

abbrev at_place : ℕ → OperandStack → Frame
at_place place s = record { activity = Method 0 0; place = place; locals = []; operands = s }

-- stacks of one place, which is taken or free, and one without places
abbrev full : OperandStack
full = record { free = 0; values = Int (pos 7) ∷ [] }

abbrev narrow : OperandStack
narrow = record { free = 1; values = [] }

abbrev flat : OperandStack
flat = record { free = 0; values = [] }

-- some exception
abbrev exception : Name
exception = record { maker = Thread 0; number = 0 }

module _ (P : Program) (f : Frame) (fs : List Frame) (ls : List Level) where
  -- a call takes its argument off, and its caller stays where it is
  pub call_leaves :
      left_by P (Next (Calls narrow f)) (at_place 3 full ∷ fs) ls ≡ Going (f ∷ at_place 3 narrow ∷ fs) ls
  call_leaves = refl

  -- a value returned is on the caller's stack, after the call
  pub return_leaves :
      left_by P (Next (Returns (Some (Int (pos 7))))) (f ∷ at_place 3 narrow ∷ fs) ls
      ≡ Going (at_place 4 full ∷ fs) ls
  unfolding pushed
  return_leaves = refl

  -- one without room is a fault: an int onto a full stack,
  pub int_faults :
      left_by P (Next (Returns (Some (Int (pos 5))))) (f ∷ at_place 3 full ∷ fs) ls ≡ Ended (Faulted Fault)
  unfolding pushed
  int_faults = refl

  -- a long where one place is free
  pub long_faults :
      left_by P (Next (Returns (Some (Long (pos 5))))) (f ∷ at_place 3 narrow ∷ fs) ls ≡ Ended (Faulted Fault)
  unfolding pushed
  long_faults = refl

  module _ (class : ClassId) (place : ℕ) (catches : P.handler (Method 0 0) 3 class ≡ Some place) where
    -- the exception alone is on the stack of a handler's frame
    pub handler_leaves : left_by P (Raise exception class) (at_place 3 full ∷ fs) ls
        ≡ Going (at_place place (record { free = 0; values = OfThread 0 0 ∷ [] }) ∷ fs) ls
    unfolding pushed
    handler_leaves = rw catches refl

    -- and without room for it that is a fault
    pub handler_faults : left_by P (Raise exception class) (at_place 3 flat ∷ fs) ls ≡ Ended (Faulted Fault)
    unfolding pushed
    handler_faults = rw catches refl

-- ---- method 0 is the initializer of class 0, whose operand stack has no places, and calls method 1, which returns 5

abbrev body : ℕ → List Instruction
body zero = InvokeStatic 0 1 ∷ Return ∷ []
body (suc m) = PushInt (pos 5) ∷ ReturnTop ∷ []

abbrev room : ℕ → ℕ
room zero = 0
room (suc m) = 1

abbrev initializer : ℕ → Option ℕ
initializer zero = Some 0
initializer (suc n) = None

abbrev code : Code
code = record {
  count = 1;
  body = body;
  room = room;
  handler = λ m place class. None;
  selected = λ class m. None;
  slots = λ c. [];
  statics = λ c. [];
  parents = λ c. [];
  main = λ c. None;
  initializer = initializer;
  initialized = initializer;
  is_error = λ class. false;
}

abbrev alone : Environment
alone d = None

pub full_is_refused : RefusedBy (toy code) alone 0 3 IsFaulted
unfolding pushed top rest
full_is_refused = NoRoom refl refl (ByStep refl refl (ByReturn refl refl)) (omega arith) refl
