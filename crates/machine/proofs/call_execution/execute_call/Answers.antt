use Rattle.machine.proofs.call_execution.execute_call.Goals as goal

pub returns-in-Static-clause-gives : goal.returns-in-Static-clause-gives
returns-in-Static-clause-gives g c = λ p. rw c.in-Static.is (c.call_static.ensures.gives p)

pub returns-in-Instance-clause-gives : goal.returns-in-Instance-clause-gives
returns-in-Instance-clause-gives g c = λ p. rw c.in-Instance.is (c.call_instance.ensures.gives p)

pub returns-in-Print-clause-gives : goal.returns-in-Print-clause-gives
returns-in-Print-clause-gives g c = λ p. rw c.in-Print.is (c.print_value.ensures.gives p)

pub returns-in-EndLine-clause-gives : goal.returns-in-EndLine-clause-gives
returns-in-EndLine-clause-gives g c = λ p. rw c.in-EndLine.is (c.end_line.ensures.gives p)
