use Rattle.object_graph.proofs.CutStartsLemmas.{cut_unseen_lem}
use Rattle.object_graph.proofs.laws.cut_unseen.Goals as goal

pub returns : goal.returns
returns c = cut_unseen_lem
