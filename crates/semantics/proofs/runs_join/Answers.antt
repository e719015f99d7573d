use Rattle.semantics.proofs.RunsLemmas.{runs_join_lem}
use Rattle.semantics.proofs.runs_join.Goals as goal

pub returns : goal.returns
returns c = runs_join_lem
