use Rattle.std.proofs.Common.{ap}
use Rattle.vm_state.specs.declared.frame.Frame.{Frame}
use Rattle.machine.proofs.AccessesLemmas.{gives_at}
use Rattle.machine.proofs.InstanceCallsLemmas.{instance_called}
use Rattle.machine.proofs.instance_calls.call_instance.Goals as goal

pub returns-clause-gives : goal.returns-clause-gives
returns-clause-gives g c =
    let operands = ap (λ (f : Frame). f.operands) c.frame.view_is in
    λ p. gives_at g.S.Store.stopped (g.S.Store.run c.args.given.by (g.S.Store.state c.args.store.now p))
    (g.S.Store.run c.args.given.by (g.S.Store.state c.call_on.new.store p)) _ _ c.call_on.new.frame c.call_on.result
    (ap (g.S.Store.run c.args.given.by (g.S.Store.state c.args.store.now p))
    (instance_called c.args.given.program.now c.args.call c.args.frame.now c.in-Some.kinds.now c.in-Ok.receiver
    c.in-Some.ensures (rw operands at c.in-Ok.ensures.ok)))
    (c.call_on.ensures.gives p)
