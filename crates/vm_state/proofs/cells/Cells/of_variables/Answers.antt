use Rattle.std.proofs.Common.{◌≡◌, ◌-◌, length, arith}
use Rattle.vm_state.proofs.CellLemmas.{contents_cut, fits_cut}
use Rattle.vm_state.proofs.cells.Cells.of_variables.Goals as goal

pub invariant_of-result : goal.invariant_of-result
invariant_of-result c =
    let above : c.len.result - c.args.locals ≡ length c.args.variables.items - c.args.locals =
    omega (arith, c.len.ensures, c.args.variables.ok) in
    fits_cut c.args.locals c.args.depth (c.len.result - c.args.locals) c.args.free c.args.variables.items above
    c.if-above-depth.true c.requires.room c.requires.small

pub returns-then-above-depth : goal.returns-then-above-depth
returns-then-above-depth c =
    let above : c.len.result - c.args.locals ≡ length c.args.variables.items - c.args.locals =
    omega (arith, c.len.ensures, c.args.variables.ok) in
    contents_cut c.args.locals c.args.depth (c.len.result - c.args.locals) c.args.free c.args.variables.items above
    c.if-above-depth.true
