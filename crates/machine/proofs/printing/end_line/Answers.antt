use Rattle.std.proofs.Common.{ap}
use Rattle.vm_state.specs.declared.frame.Frame.{Frame}
use Rattle.machine.proofs.AccessesLemmas.{gives_at}
use Rattle.machine.proofs.PrintingLemmas.{line_ended}
use Rattle.machine.proofs.printing.end_line.Goals as goal

pub returns-clause-gives : goal.returns-clause-gives
returns-clause-gives g c =
    let operands = ap (λ (f : Frame). f.operands) c.frame.view_is in
    λ p. gives_at g.S.Store.stopped (g.S.Store.run c.args.given.by (g.S.Store.state c.args.store.now p))
    (g.S.Store.run c.args.given.by (g.S.Store.state c.print_on.new.store p)) _ _ c.print_on.new.frame c.print_on.result
    (ap (g.S.Store.run c.args.given.by (g.S.Store.state c.args.store.now p))
    (line_ended c.args.given.program.now c.args.call c.args.frame.now c.in-Ok.receiver c.in_ok-text.text
    (rw operands at c.in-Ok.ensures.ok)
    c.in_ok-text.ensures))
    (c.print_on.ensures.gives p)
