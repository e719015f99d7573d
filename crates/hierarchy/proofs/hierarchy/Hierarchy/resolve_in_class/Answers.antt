use Rattle.hierarchy.specs.Resolution.{ResolvesMethod}
use Rattle.hierarchy.specs.steps.Sought.{sought_name}
use Rattle.hierarchy.proofs.hierarchy.Hierarchy.resolve_in_class.Goals as goal

pub returns-in-Some-clause-method : goal.returns-in-Some-clause-method
returns-in-Some-clause-method c = ResolvesMethod.of_class c.requires.class c.in-Some.ensures

pub returns-clause-method : goal.returns-clause-method
returns-clause-method c =
    let key = sought_name c.args.sought in
    ResolvesMethod.above_class c.requires.class c.in_default.ensures
    (c.in_ok-method.ensures.method key c.requires.lookup)
