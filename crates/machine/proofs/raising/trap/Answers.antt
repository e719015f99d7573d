use Rattle.machine.proofs.raising.trap.Goals as goal

pub returns-in-Raise-clause-gives : goal.returns-in-Raise-clause-gives
returns-in-Raise-clause-gives g c = λ p f. rw c.in-Raise.is (c.raise.ensures.gives p f)
