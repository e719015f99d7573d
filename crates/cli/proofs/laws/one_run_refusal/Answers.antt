use Rattle.cli.proofs.OneRunLemmas.{one_run_refusal_lem as proof}
use Rattle.cli.proofs.laws.one_run_refusal.Goals as goal

pub returns : goal.returns
returns c = proof
