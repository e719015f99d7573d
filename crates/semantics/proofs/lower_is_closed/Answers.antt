use Rattle.semantics.proofs.WithinAcceptedLemmas.{lower_is_closed_lem}
use Rattle.semantics.proofs.lower_is_closed.Goals as goal

pub returns : goal.returns
returns c = lower_is_closed_lem
