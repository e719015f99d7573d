use Rattle.thread_runner.proofs.ReplayLemmas.{failed_has_none}
use Rattle.thread_runner.proofs.laws.a_fault_has_no_run.Goals as goal

pub returns : goal.returns
returns c = failed_has_none
