use Rattle.std.proofs.Common.{◌≡◌, ◌∙◌, ◌+◌, [], replicate, ap, arith}
use Rattle.std.specs.Vec.{vec_len}
use Rattle.std.proofs.lemmas.Grind.{common_steps}
use Rattle.vm_state.specs.declared.variable.Variable.TheVariants.{Nothing}
use Rattle.vm_state.specs.Cells.{contents}
use Rattle.vm_state.proofs.CellLemmas.{blank_is}
use Rattle.vm_state.proofs.cells.Cells.emptied.Goals as goal

pub returns : goal.returns
returns c =
    let none : c.reserve_exact.new.self.items ≡ [] = c.reserve_exact.ensures.items ∙ c.clear.ensures.items in
    let zero : vec_len c.reserve_exact.new.self ≡ 0 = c.reserve_exact.ensures.len ∙ c.clear.ensures.len in
    let nothing : c.resize.new.self.items ≡ replicate (c.args.locals + c.args.room) Nothing =
    grind (arith, common_steps, none, zero, c.in_ok-resize.ensures.items) in
    ap (contents c.args.locals 0 c.args.room) nothing ∙ blank_is c.args.locals c.args.room
