use Rattle.semantics.proofs.AcceptedRegionsLemmas.{one_region_lem}
use Rattle.semantics.proofs.one_region.Goals as goal

pub returns : goal.returns
returns c = one_region_lem
