use Rattle.std.proofs.Common.{◌∙◌}
use Rattle.vm_state.proofs.OperandLemmas.{all_dropped}
use Rattle.vm_state.proofs.cells.Cells.clear.Goals as goal

pub returns-clause-operands : goal.returns-clause-operands
returns-clause-operands c =
    c.drop_many.ensures.operands ∙ all_dropped c.len-count.result c.args.self.now.operands c.len-count.ensures
