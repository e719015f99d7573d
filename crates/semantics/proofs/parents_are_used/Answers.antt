use Rattle.semantics.proofs.WithinAcceptedLemmas.{parents_are_used_lem}
use Rattle.semantics.proofs.parents_are_used.Goals as goal

pub returns : goal.returns
returns c = parents_are_used_lem
