use Rattle.machine.proofs.arrays.on_array.Goals as goal

pub returns-in-New-clause-gives : goal.returns-in-New-clause-gives
returns-in-New-clause-gives g c =
    λ p. rw (c.in-New.is, ← c.type_of_primitives.ensures, ← c.zero_of.ensures) (c.make_array.ensures.gives p)

pub returns-in-NewOfReferences-clause-gives : goal.returns-in-NewOfReferences-clause-gives
returns-in-NewOfReferences-clause-gives g c =
    λ p. rw c.in-NewOfReferences.is (c.make_array-in-NewOfReferences.ensures.gives p)

pub returns-in-Length-clause-gives : goal.returns-in-Length-clause-gives
returns-in-Length-clause-gives g c = λ p. rw c.in-Length.is (c.array_length.ensures.gives p)

pub returns-in-Load-clause-gives : goal.returns-in-Load-clause-gives
returns-in-Load-clause-gives g c = λ p. rw c.in-Load.is (c.load_element.ensures.gives p)

pub returns-in-Store-clause-gives : goal.returns-in-Store-clause-gives
returns-in-Store-clause-gives g c = λ p. rw c.in-Store.is (c.store_element.ensures.gives p)
