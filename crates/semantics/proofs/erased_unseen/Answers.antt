use Rattle.semantics.proofs.WholeRunsLemmas.{erased_unseen_lem}
use Rattle.semantics.proofs.erased_unseen.Goals as goal

pub returns : goal.returns
returns c = erased_unseen_lem
