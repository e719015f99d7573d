use Rattle.semantics.proofs.DroppedRunsLemmas.{dropped_unseen_lem}
use Rattle.semantics.proofs.dropped_unseen.Goals as goal

pub returns : goal.returns
returns c = dropped_unseen_lem
