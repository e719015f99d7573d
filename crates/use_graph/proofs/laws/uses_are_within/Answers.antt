use Rattle.use_graph.proofs.UsesWithinLemmas.{uses_are_within_lem}
use Rattle.use_graph.proofs.laws.uses_are_within.Goals as goal

pub returns : goal.returns
returns c = uses_are_within_lem
