-- A frame (JVMS 2.6): what it is for, the place of its next instruction, its local variables and its operands.
use Rattle.std.specs.Prelude.{ℕ, List, Option}
use Rattle.vm_state.specs.declared.frame.Activity.{Activity}
use Rattle.vm_state.specs.declared.value.Value.{Value}
use Rattle.vm_state.specs.Operands.{OperandStack}

pub record FrameState : Type 0 where
  pub activity : Activity
  pub place : ℕ
  pub locals : List (Option Value)
  pub operands : OperandStack
