use Rattle.std.proofs.Common.{arith}
use Rattle.vm_state.specs.Variables.{operand_in}
use Rattle.vm_state.proofs.ListLemmas.{apart_at}
use Rattle.vm_state.proofs.cells.same_operands.Goals as goal

pub returns-then-not-same_operand-clause-no : goal.returns-then-not-same_operand-clause-no
returns-then-not-same_operand-clause-no c =
    λ no. apart_at operand_in c.args.left.now c.args.right.now c.loop-place.place _ _
    (omega (arith, c.loop-place-test.true)) (omega (arith, c.loop-place-test.true, c.if-left-right.false))
    (c.same_operand.ensures.no c.if-not-same_operand.true)
