use Rattle.audit.proofs.RunsLemmas.{threads_run_reached_lem}
use Rattle.audit.proofs.laws.threads_run_reached.Goals as goal

pub returns : goal.returns
returns c = threads_run_reached_lem
