use Rattle.building.proofs.OneSettledLemmas.{one_settled_as_lem as proof}
use Rattle.building.proofs.laws.one_settled_as.Goals as goal

pub returns : goal.returns
returns c = proof
