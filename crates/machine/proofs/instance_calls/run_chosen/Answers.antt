use Rattle.std.proofs.Common.{subst}
use Rattle.hierarchy.specs.declared.member.Method.{Method}
use Rattle.std.proofs.Common.{Option}
use Rattle.machine.specs.Accesses.{Gives}
use Rattle.machine.specs.Calls.{runs}
use Rattle.machine.proofs.AccessesLemmas.{gives_at}
use Rattle.machine.proofs.MembersLemmas.{selected_asked}
use Rattle.machine.proofs.instance_calls.run_chosen.Goals as goal

pub returns-in-Found-clause-gives : goal.returns-in-Found-clause-gives
returns-in-Found-clause-gives g c = λ p. rw c.in-Found.is (c.run_method.ensures.gives p)

pub returns-in-Some-clause-gives : goal.returns-in-Some-clause-gives
returns-in-Some-clause-gives g c =
    λ p. rw c.in-Selected.is
    (gives_at g.S.Store.stopped (g.S.Store.run c.args.given.by (g.S.Store.state c.args.store.now p))
    (g.S.Store.run c.args.given.by (g.S.Store.state c.run_method-in-Selected.new.store p)) _ _
    c.run_method-in-Selected.new.frame c.run_method-in-Selected.result
    (selected_asked (g.S.Store.run c.args.given.by (g.S.Store.state c.args.store.now p)) c.args.given.program.now
    c.in-Selected.method c.args.receiver.count c.args.frame.now c.args.receiver.value
    c.in_ok-class-in-Selected.field-0 c.in-Some.class
    (c.in_ok-class-in-Selected.ensures p) c.in-Some.is)
    (subst (λ (o : Option Method). Gives g.S.Store.stopped (g.S.Store.run c.args.given.by (g.S.Store.state
    c.args.store.now p))
    (g.S.Store.run c.args.given.by (g.S.Store.state c.run_method-in-Selected.new.store p))
    (runs c.args.given.program.now c.args.receiver.count c.args.receiver.value c.args.frame.now o)
    c.run_method-in-Selected.new.frame
    c.run_method-in-Selected.result)
    c.select-selected.ensures.value (c.run_method-in-Selected.ensures.gives p)))
