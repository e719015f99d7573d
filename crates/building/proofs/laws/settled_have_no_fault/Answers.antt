use Rattle.building.proofs.OneFaultLemmas.{settled_have_no_fault_lem as proof}
use Rattle.building.proofs.laws.settled_have_no_fault.Goals as goal

pub returns : goal.returns
returns c = proof
