use Rattle.semantics.proofs.AcceptedRegionsLemmas.{wider_environment_lem}
use Rattle.semantics.proofs.wider_environment.Goals as goal

pub returns : goal.returns
returns c = wider_environment_lem
