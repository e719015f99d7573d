use Rattle.machine.proofs.execute.end.Goals as goal

pub returns-in-Err-clause-gives : goal.returns-in-Err-clause-gives
returns-in-Err-clause-gives g c = λ p. rw c.in-Err.is (c.trap.ensures.gives p c.args.frame.now)
