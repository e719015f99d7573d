use Rattle.object_graph.proofs.CutsLemmas.{one_cut_lem}
use Rattle.object_graph.proofs.laws.one_cut.Goals as goal

pub returns : goal.returns
returns c = one_cut_lem
