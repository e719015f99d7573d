use Rattle.machine.proofs.monitors.without_monitor.Goals as goal

pub returns-in-Null-clause-gives : goal.returns-in-Null-clause-gives
returns-in-Null-clause-gives g c = λ p f. rw c.in-Null.is (c.raise.ensures.gives p f)
