use Rattle.machine.proofs.execute.execute_resolved.Goals as goal

pub returns-in-GetStatic-clause-gives : goal.returns-in-GetStatic-clause-gives
returns-in-GetStatic-clause-gives g c = λ p. rw c.in-GetStatic.is (c.get_static.ensures.gives p)

pub returns-in-PutStatic-clause-gives : goal.returns-in-PutStatic-clause-gives
returns-in-PutStatic-clause-gives g c = λ p. rw c.in-PutStatic.is (c.put_static.ensures.gives p)

pub returns-in-OnArray-clause-gives : goal.returns-in-OnArray-clause-gives
returns-in-OnArray-clause-gives g c = λ p. rw c.in-OnArray.is (c.on_array.ensures.gives p)

pub returns-in-OnObject-clause-gives : goal.returns-in-OnObject-clause-gives
returns-in-OnObject-clause-gives g c = λ p. rw c.in-OnObject.is (c.execute_on_object.ensures.gives p)

pub returns-in-OnCall-clause-gives : goal.returns-in-OnCall-clause-gives
returns-in-OnCall-clause-gives g c = λ p. rw c.in-OnCall.is (c.execute_call.ensures.gives p)
