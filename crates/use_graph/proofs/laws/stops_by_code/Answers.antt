use Rattle.use_graph.proofs.LawsLemmas.{stops_by_code_lem}
use Rattle.use_graph.proofs.laws.stops_by_code.Goals as goal

pub returns : goal.returns
returns c = stops_by_code_lem
