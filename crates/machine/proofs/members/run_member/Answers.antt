use Rattle.machine.proofs.members.run_member.Goals as goal

pub returns-in-NewEnum-clause-gives : goal.returns-in-NewEnum-clause-gives
returns-in-NewEnum-clause-gives g c = λ p. rw c.in-NewEnum.is (c.new_enum.ensures.gives p)

pub returns-in-EnumName-clause-gives : goal.returns-in-EnumName-clause-gives
returns-in-EnumName-clause-gives g c = λ p. rw c.in-EnumName.is (c.enum_part.ensures.gives p)

pub returns-in-EnumOrdinal-clause-gives : goal.returns-in-EnumOrdinal-clause-gives
returns-in-EnumOrdinal-clause-gives g c = λ p. rw c.in-EnumOrdinal.is (c.enum_part-in-EnumOrdinal.ensures.gives p)

pub returns-in-CloneArray-clause-gives : goal.returns-in-CloneArray-clause-gives
returns-in-CloneArray-clause-gives g c = λ p. rw c.in-CloneArray.is (c.clone_array.ensures.gives p)
