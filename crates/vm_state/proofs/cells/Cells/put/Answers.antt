use Rattle.std.proofs.Common.{◌≡◌, ◌<◌, ◌∙◌, ap, sym, arith, length, slice_set}
use Rattle.vm_state.specs.Cells.{Contents}
use Rattle.vm_state.specs.Variables.{value_in}
use Rattle.vm_state.proofs.CellLemmas.{length_locals, locals_put}
use Rattle.vm_state.proofs.cells.Cells.put.Goals as goal

pub returns-clause-locals : goal.returns-clause-locals
returns-clause-locals c =
    let s = c.self.inside in
    let count : length c.args.self.now.locals ≡ c.self.inside.locals =
    ap (λ (held : Contents). length held.locals) (sym c.self.view_is)
    ∙ length_locals s.locals s.variables.items (omega (arith, c.self.invariant.there)) in
    let inside : c.args.at < c.self.inside.locals = omega (arith, count, c.requires) in
    locals_put s.locals c.args.at s.variables.items c.args.variable inside
    ∙ ap (λ (held : Contents). slice_set held.locals c.args.at (value_in c.args.variable)) c.self.view_is
