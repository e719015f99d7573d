use Rattle.std.proofs.Common.{◌≡◌, ◌∙◌, ◌+◌, replicate, ap, rules}
use Rattle.vm_state.specs.declared.variable.Variable.TheVariants.{Nothing}
use Rattle.vm_state.specs.Cells.{contents}
use Rattle.vm_state.proofs.CellLemmas.{blank_is}
use Rattle.vm_state.proofs.cells.Cells.new.Goals as goal

pub returns : goal.returns
returns c =
    let nothing : c.in_ok-variables.variables.items ≡ replicate (c.args.locals + c.args.room) Nothing = search rules in
    ap (contents c.args.locals 0 c.args.room) nothing ∙ blank_is c.args.locals c.args.room
