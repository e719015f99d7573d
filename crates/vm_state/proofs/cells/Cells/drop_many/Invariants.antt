use Rattle.std.proofs.Common.{◌≡◌}
use Rattle.vm_state.specs.Operands.{dropped}
use Rattle.vm_state.proofs.cells.Cells.drop_many.Given as goal

abbrev pub invariant-loop : goal.invariant-loop
invariant-loop l = (l.self.operands ≡ dropped l.counter l.initial.self.operands) ×
    (l.self.locals ≡ l.initial.self.locals)
