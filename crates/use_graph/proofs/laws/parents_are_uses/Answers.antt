use Rattle.use_graph.proofs.ParentsLemmas.{parents_are_uses_lem}
use Rattle.use_graph.proofs.laws.parents_are_uses.Goals as goal

pub returns : goal.returns
returns c = parents_are_uses_lem
