use Rattle.std.proofs.Common.{◌∙◌, ap, sym, map}
use Rattle.vm_state.specs.Cells.{Contents}
use Rattle.vm_state.specs.Variables.{operand_in}
use Rattle.vm_state.proofs.ListLemmas.{reverse_same}
use Rattle.vm_state.proofs.cells.Cells.is_same.Goals as goal

pub returns-then-same_locals-clause-no : goal.returns-then-same_locals-clause-no
returns-then-same_locals-clause-no c =
    λ no same. c.same_operands.ensures.no no (reverse_same (map operand_in c.operands.result.now)
    (map operand_in c.operands-then-same_locals.result.now)
    (c.operands.ensures
    ∙ (ap (λ (held : Contents). held.operands.values) same ∙ sym c.operands-then-same_locals.ensures)))
