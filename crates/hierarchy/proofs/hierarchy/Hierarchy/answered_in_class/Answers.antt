use Rattle.hierarchy.specs.Resolution.{ResolvesMethod}
use Rattle.hierarchy.specs.steps.Sought.{sought_name}
use Rattle.hierarchy.proofs.hierarchy.Hierarchy.answered_in_class.Goals as goal

pub returns : goal.returns
returns c = λ m are e.
    ResolvesMethod.above_class c.requires.class c.in_default.ensures
    (c.answered_among_interfaces.ensures (sought_name c.args.sought) m c.requires.lookup are e)
