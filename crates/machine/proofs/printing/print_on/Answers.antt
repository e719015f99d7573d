use Rattle.std.proofs.Common.{ap, sym, ◌∙◌}
use Rattle.machine.proofs.AccessesLemmas.{gives_at}
use Rattle.machine.proofs.InstanceCallsLemmas.{not_printed}
use Rattle.machine.proofs.printing.print_on.Goals as goal

pub returns-then-not-is_out-clause-gives : goal.returns-then-not-is_out-clause-gives
returns-then-not-is_out-clause-gives g c =
    λ p. gives_at g.S.Store.stopped (g.S.Store.run c.args.given.by (g.S.Store.state c.args.store.now p))
    (g.S.Store.run c.args.given.by (g.S.Store.state c.call_on.new.store p)) _ _ c.call_on.new.frame c.call_on.result
    (ap (g.S.Store.run c.args.given.by (g.S.Store.state c.args.store.now p))
    (not_printed c.args.given.program.now c.args.call c.args.frame.now c.args.text c.args.receiver.count
    c.args.receiver.value
    (sym c.is_out.ensures ∙ c.if-not-is_out.true)))
    (c.call_on.ensures.gives p)
