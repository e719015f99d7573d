use Rattle.std.proofs.Common.{◌≡◌, ◌≤◌, drop, length, map}
use Rattle.vm_state.specs.Variables.{operand_in}
use Rattle.vm_state.specs.Arguments.{passed}
use Rattle.vm_state.proofs.cells.Cells.store_all.Given as goal

abbrev pub invariant-loop-value : goal.invariant-loop-value
invariant-loop-value l =
    (l.at ≤ length l.self.locals)
    × (passed l.self.locals l.at (map operand_in (drop l.value-index l.values))
    ≡ passed l.initial.self.locals 0 (map operand_in l.values))
    × (l.self.operands ≡ l.initial.self.operands)
