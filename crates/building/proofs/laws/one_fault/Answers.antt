use Rattle.building.proofs.OneFaultLemmas.{one_fault_lem as proof}
use Rattle.building.proofs.laws.one_fault.Goals as goal

pub returns : goal.returns
returns c = proof
