use Rattle.std.proofs.Common.{sym}
use Rattle.hierarchy.specs.Resolution.{ResolvesMethod}
use Rattle.hierarchy.proofs.hierarchy.Hierarchy.resolve_in_interface.Goals as goal

pub returns-in-Some-clause-method : goal.returns-in-Some-clause-method
returns-in-Some-clause-method c = λ name is.
    ResolvesMethod.of_interface c.requires.class (sym (c.in-Some.ensures name is))

pub returns-clause-method : goal.returns-clause-method
returns-clause-method c = λ name is.
    ResolvesMethod.above_interface c.requires.class (sym (c.in_default.ensures name is))
    (c.in_ok-method.ensures.method name is)
