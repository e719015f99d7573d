use Rattle.std.proofs.Common.{◌≤◌, ◌+◌, subst, arith}
use Rattle.std.proofs.lemmas.Grind.{common_steps}
use Rattle.vm_state.specs.Cells.{Contents}
use Rattle.vm_state.specs.Operands.{all_places}
use Rattle.vm_state.proofs.OperandLemmas.{free_below}
use Rattle.vm_state.proofs.cells.Cells.free_under.Goals as goal

pub overflow_add-free : goal.overflow_add-free
overflow_add-free c =
    let e = free_below c.loop-depth.depth c.args.self.now.operands c.in-Ok.value c.in-Ok.ensures.ok in
    let small = subst (λ (s : Contents). s.operands.free + all_places s.operands.values ≤ 65535) c.self.view_is
    c.self.invariant.small in
    grind (arith, common_steps, e, small)
