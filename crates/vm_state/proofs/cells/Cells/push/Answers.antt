use Rattle.std.proofs.Common.{◌≡◌, ◌≤◌, ◌<◌, ◌+◌, ◌∙◌, ap, sym, arith}
use Rattle.vm_state.specs.Cells.{Contents}
use Rattle.vm_state.specs.Operands.{pushed}
use Rattle.vm_state.specs.Values.{places}
use Rattle.vm_state.specs.Variables.{operand_in}
use Rattle.vm_state.proofs.OperandLemmas.{one_place}
use Rattle.vm_state.proofs.CellLemmas.{cell_left, depth_small, fits_pushed, pushed_is}
use Rattle.vm_state.proofs.cells.Cells.push.Goals as goal

pub index_mut-requires : goal.index_mut-requires
index_mut-requires c =
    let s = c.self.inside in
    let some : 1 ≤ c.self.inside.free =
    omega (arith, c.if-self-places.false, c.places-places.ensures, one_place c.args.value) in
    omega (arith, cell_left s.locals s.depth s.free s.variables.items c.self.invariant some, s.variables.ok)

pub overflow_add-self : goal.overflow_add-self
overflow_add-self c =
    let s = c.self.inside in
    omega (
      arith,
      depth_small s.locals s.depth s.free s.variables.items c.self.invariant,
      c.if-self-places.false,
      c.places-places.ensures,
      one_place c.args.value,
    )

pub invariant_of-self : goal.invariant_of-self
invariant_of-self c =
    let s = c.self.inside in
    let same : places (operand_in c.holding.result) ≡ c.places-places.result =
    ap places c.holding.ensures.operand ∙ sym c.places-places.ensures in
    let room : places (operand_in c.holding.result) ≤ c.self.inside.free = omega
    (arith, same, c.if-self-places.false) in
    rw same at (fits_pushed s.locals s.depth s.free s.variables.items c.holding.result room c.self.invariant)

pub returns-clause-fits : goal.returns-clause-fits
returns-clause-fits c =
    let s = c.self.inside in
    let cell = c.holding.result in
    let same : places (operand_in c.holding.result) ≡ c.places-places.result =
    ap places c.holding.ensures.operand ∙ sym c.places-places.ensures in
    let room : places (operand_in c.holding.result) ≤ c.self.inside.free = omega
    (arith, same, c.if-self-places.false) in
    ap (λ v. pushed v c.args.self.now.operands) (sym c.holding.ensures.operand)
    ∙ ap (λ (held : Contents). pushed (operand_in cell) held.operands) (sym c.self.view_is)
    ∙ rw same at (pushed_is s.locals s.depth s.free s.variables.items cell room c.self.invariant)
