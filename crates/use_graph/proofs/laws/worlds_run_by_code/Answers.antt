use Rattle.use_graph.proofs.LawsLemmas.{worlds_run_by_code_lem}
use Rattle.use_graph.proofs.laws.worlds_run_by_code.Goals as goal

pub returns : goal.returns
returns c = worlds_run_by_code_lem
