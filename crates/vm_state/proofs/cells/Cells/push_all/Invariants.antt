use Rattle.std.proofs.Common.{◌≡◌, drop}
use Rattle.vm_state.specs.Operands.{all_pushed}
use Rattle.vm_state.proofs.cells.Cells.push_all.Given as goal

abbrev pub invariant-loop-value : goal.invariant-loop-value
invariant-loop-value l =
    (all_pushed (drop l.value-index l.values) l.self.operands ≡ all_pushed l.values l.initial.self.operands)
    × (l.self.locals ≡ l.initial.self.locals)
