use Rattle.hierarchy.proofs.hierarchy.Hierarchy.first_field.Goals as goal

pub returns-then-is_undeclared-clause-found : goal.returns-then-is_undeclared-clause-found
returns-then-is_undeclared-clause-found c = λ name is.
    c.first_along.ensures name is (λ i. c.is_undeclared.ensures name i is c.if-is_undeclared.true)
