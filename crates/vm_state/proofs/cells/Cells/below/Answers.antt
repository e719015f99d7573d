use Rattle.std.proofs.Common.{◌≤◌, ◌∙◌, ap, sym, arith, length}
use Rattle.std.proofs.lemmas.Grind.{common_steps}
use Rattle.vm_state.specs.declared.variable.Variable.TheVariants.{Nothing}
use Rattle.vm_state.specs.Cells.{Contents, values_of}
use Rattle.vm_state.specs.Operands.{top, dropped}
use Rattle.vm_state.proofs.OperandLemmas.{none_of}
use Rattle.vm_state.proofs.CellLemmas.{length_values, below_is}
use Rattle.vm_state.proofs.cells.Cells.below.Goals as goal

pub returns-then-depth-others-clause-err : goal.returns-then-depth-others-clause-err
returns-then-depth-others-clause-err c =
    let s = c.self.inside in
    let values = values_of s.locals s.depth s.variables.items in
    let few : length values ≤ c.args.others =
    omega (arith, length_values s.locals s.depth s.variables.items c.self.invariant.there, c.if-depth-others.true) in
    ap (λ (held : Contents). top (dropped c.args.others held.operands)) (sym c.self.view_is)
    ∙ none_of c.args.others s.free values few

pub returns-clause-ok : goal.returns-clause-ok
returns-clause-ok c =
    let s = c.self.inside in
    let e = ap (λ (held : Contents). top (dropped c.args.others held.operands)) (sym c.self.view_is)
    ∙ below_is s.locals s.depth s.free c.args.others s.variables.items Nothing c.if-depth-others.false
    c.self.invariant.there in
    grind (arith, common_steps, e)
