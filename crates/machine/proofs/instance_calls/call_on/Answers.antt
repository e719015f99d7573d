use Rattle.std.proofs.Common.{ap, sym, ◌∙◌}
use Rattle.machine.proofs.AccessesLemmas.{gives_at}
use Rattle.machine.proofs.InstanceCallsLemmas.{null_called, chosen_called}
use Rattle.machine.proofs.instance_calls.call_on.Goals as goal

pub returns-then-is_null-clause-gives : goal.returns-then-is_null-clause-gives
returns-then-is_null-clause-gives g c =
    λ p. gives_at g.S.Store.stopped (g.S.Store.run c.args.given.by (g.S.Store.state c.args.store.now p))
    (g.S.Store.run c.args.given.by (g.S.Store.state c.raise.new.store p)) _ _ c.args.frame.now c.raise.result
    (ap (g.S.Store.run c.args.given.by (g.S.Store.state c.args.store.now p))
    (null_called c.args.given.program.now c.args.call c.args.frame.now c.args.receiver.count c.args.receiver.value
    (sym c.is_null.ensures ∙ c.if-is_null.true)))
    (c.raise.ensures.gives p c.args.frame.now)

pub returns-clause-gives : goal.returns-clause-gives
returns-clause-gives g c =
    λ p. gives_at g.S.Store.stopped (g.S.Store.run c.args.given.by (g.S.Store.state c.args.store.now p))
    (g.S.Store.run c.args.given.by (g.S.Store.state c.run_chosen.new.store p)) _ _ c.run_chosen.new.frame
    c.run_chosen.result
    (ap (g.S.Store.run c.args.given.by (g.S.Store.state c.args.store.now p))
    (chosen_called c.args.given.program.now c.args.call c.args.frame.now c.args.receiver.count c.args.receiver.value
    (sym c.names_another.ensures ∙ c.if-names_another.false) (sym c.is_null.ensures ∙ c.if-is_null.false)))
    (c.run_chosen.ensures.gives p)
