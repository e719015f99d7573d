use Rattle.use_graph.proofs.ScopeTableLemmas.{table_is_bounded_lem}
use Rattle.use_graph.proofs.laws.table_is_bounded.Goals as goal

pub returns : goal.returns
returns c = table_is_bounded_lem
