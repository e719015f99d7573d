use Rattle.std.proofs.Common.{◌≡◌, ◌∙◌, ◌-◌, List, length, map, drop, ap, sym, arith}
use Rattle.std.proofs.lemmas.List.{take_rest, drop-map, length-map}
use Rattle.vm_state.specs.declared.value.Value.{Value}
use Rattle.vm_state.specs.Variables.{operand_in}
use Rattle.vm_state.specs.Arguments.{taken}
use Rattle.vm_state.proofs.OperandLemmas.{taken_is}
use Rattle.vm_state.proofs.cells.Cells.taken.Goals as goal

pub returns : goal.returns
returns c =
    let cells = c.operands-operands.result.now in
    let first = c.saturating_sub.result in
    let s = c.args.self.now.operands in
    let start : c.saturating_sub.result ≡ length (map operand_in c.operands-operands.result.now) - c.args.count =
    omega (arith, length-map cells operand_in) in
    ap (map operand_in) (take_rest cells first)
    ∙ sym (drop-map operand_in first cells)
    ∙ ap (λ k. drop k (map operand_in cells)) start
    ∙ taken_is c.args.count s.free (map operand_in cells)
    ∙ ap (λ (vs : List Value). taken c.args.count (record { free = s.free; values = vs })) c.operands-operands.ensures
