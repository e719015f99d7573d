use Rattle.object_graph.proofs.CutsLemmas.{nothing_left_out_lem}
use Rattle.object_graph.proofs.laws.nothing_left_out.Goals as goal

pub returns : goal.returns
returns c = nothing_left_out_lem
