use Rattle.std.proofs.Common.{◌≡◌, take, map}
use Rattle.vm_state.specs.Variables.{operand_in}
use Rattle.vm_state.proofs.cells.same_operands.Given as goal

abbrev pub invariant-loop-place : goal.invariant-loop-place
invariant-loop-place l = map operand_in (take l.place l.left) ≡ map operand_in (take l.place l.right)
