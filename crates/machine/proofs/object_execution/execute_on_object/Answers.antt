use Rattle.machine.proofs.object_execution.execute_on_object.Goals as goal

pub returns-in-NewGiven-clause-gives : goal.returns-in-NewGiven-clause-gives
returns-in-NewGiven-clause-gives g c = λ p. rw c.in-NewGiven.is (c.new_given.ensures.gives p)

pub returns-in-NewBuiltIn-clause-gives : goal.returns-in-NewBuiltIn-clause-gives
returns-in-NewBuiltIn-clause-gives g c = λ p. rw c.in-NewBuiltIn.is (c.new_built_in.ensures.gives p)

pub returns-in-CheckCast-clause-gives : goal.returns-in-CheckCast-clause-gives
returns-in-CheckCast-clause-gives g c = λ p. rw c.in-CheckCast.is (c.check_cast.ensures.gives p)

pub returns-in-InstanceOf-clause-gives : goal.returns-in-InstanceOf-clause-gives
returns-in-InstanceOf-clause-gives g c = λ p. rw c.in-InstanceOf.is (c.instance_of.ensures.gives p)

pub returns-in-Throw-clause-gives : goal.returns-in-Throw-clause-gives
returns-in-Throw-clause-gives g c = λ p. rw c.in-Throw.is (c.throw.ensures.gives p)

pub returns-in-GetField-clause-gives : goal.returns-in-GetField-clause-gives
returns-in-GetField-clause-gives g c = λ p. rw c.in-GetField.is (c.get_field.ensures.gives p)

pub returns-in-PutField-clause-gives : goal.returns-in-PutField-clause-gives
returns-in-PutField-clause-gives g c = λ p. rw c.in-PutField.is (c.put_field.ensures.gives p)

pub returns-in-EnterMonitor-clause-gives : goal.returns-in-EnterMonitor-clause-gives
returns-in-EnterMonitor-clause-gives g c = λ p. rw c.in-EnterMonitor.is (c.enter_monitor.ensures.gives p)

pub returns-in-ExitMonitor-clause-gives : goal.returns-in-ExitMonitor-clause-gives
returns-in-ExitMonitor-clause-gives g c = λ p. rw c.in-ExitMonitor.is (c.exit_monitor.ensures.gives p)
