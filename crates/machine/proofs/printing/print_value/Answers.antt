use Rattle.std.proofs.Common.{ap, sym, ◌∙◌}
use Rattle.vm_state.specs.declared.frame.Frame.{Frame}
use Rattle.machine.proofs.AccessesLemmas.{gives_at}
use Rattle.machine.proofs.PrintingLemmas.{value_called, value_printed}
use Rattle.machine.proofs.printing.print_value.Goals as goal

pub returns-then-is_printed-clause-gives : goal.returns-then-is_printed-clause-gives
returns-then-is_printed-clause-gives g c =
    let operands = ap (λ (f : Frame). f.operands) c.frame.view_is in
    λ p. gives_at g.S.Store.stopped (g.S.Store.run c.args.given.by (g.S.Store.state c.args.store.now p))
    (g.S.Store.run c.args.given.by (g.S.Store.state c.call_on.new.store p)) _ _ c.call_on.new.frame c.call_on.result
    (ap (g.S.Store.run c.args.given.by (g.S.Store.state c.args.store.now p))
    (value_called c.args.given.program.now c.args.call c.args.frame.now c.in-Ok-second_reference.receiver c.args.what
    c.args.line c.in-Ok.value (rw operands at c.in-Ok.ensures.ok) (sym c.is_printed.ensures ∙ c.if-is_printed.true)
    (rw operands at c.in-Ok-second_reference.ensures.ok) (sym c.is_out.ensures ∙ c.if-not-is_out.true)))
    (c.call_on.ensures.gives p)

pub returns-clause-gives : goal.returns-clause-gives
returns-clause-gives g c =
    let operands = ap (λ (f : Frame). f.operands) c.frame.view_is in
    λ p. gives_at g.S.Store.stopped (g.S.Store.run c.args.given.by (g.S.Store.state c.args.store.now p))
    (g.S.Store.run c.args.given.by (g.S.Store.state c.print_on.new.store p)) _ _ c.print_on.new.frame c.print_on.result
    (ap (g.S.Store.run c.args.given.by (g.S.Store.state c.args.store.now p))
    (value_printed c.args.given.program.now c.args.call c.args.frame.now c.in-Ok-second_reference.receiver c.args.what
    c.args.line c.in-Ok.value c.in-Some.text c.in_ok-text-2.text (rw operands at c.in-Ok.ensures.ok)
    (sym c.in_ok-text.ensures ∙ c.in-Some.is) (rw operands at c.in-Ok-second_reference.ensures.ok)
    c.in_ok-text-2.ensures))
    (c.print_on.ensures.gives p)
