use Rattle.std.proofs.Common.{ap}
use Rattle.vm_state.specs.declared.frame.Frame.{Frame}
use Rattle.machine.proofs.TableLocalLemmas.{row_start, row_method}
use Rattle.machine.proofs.execute.execute.Goals as goal

pub returns-in-Start-clause-gives : goal.returns-in-Start-clause-gives
returns-in-Start-clause-gives g c =
    let activity = ap (λ (f : Frame). f.activity) c.frame.view_is in
    λ p. rw (row_start c.args.program.now c.args.frame.now c.in-Start.class (rw activity at c.in-Start.is))
    (c.start.ensures.gives p)

pub returns-in-Method-clause-gives : goal.returns-in-Method-clause-gives
returns-in-Method-clause-gives g c =
    let activity = ap (λ (f : Frame). f.activity) c.frame.view_is in
    λ p. rw (row_method c.args.program.now c.args.frame.now c.in-Method.class c.in-Method.index
    (rw activity at c.in-Method.is))
    (c.execute_next.ensures.gives p)
