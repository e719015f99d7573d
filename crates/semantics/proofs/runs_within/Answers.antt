use Rattle.semantics.proofs.WithinRunsLemmas.{runs_within_lem}
use Rattle.semantics.proofs.runs_within.Goals as goal

pub returns : goal.returns
returns c = runs_within_lem
