use Rattle.std.proofs.Common.{inr}
use Rattle.options.specs.Faults.{both}
use Rattle.options.proofs.demanding.demand_of.Goals as goal

pub returns-in_ok-class_name-in-Some-clause-fault : goal.returns-in_ok-class_name-in-Some-clause-fault
returns-in_ok-class_name-in-Some-clause-fault c =
    inr (both (rw c.deref.ensures.value at c.in-Some.ensures.both) c.in_ok-class_name-in-Some.ensures)
