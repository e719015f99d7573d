use Rattle.wave_scheduler.proofs.ExactLemmas.{settled_are_exact_lem as proof}
use Rattle.wave_scheduler.proofs.laws.settled_are_exact.Goals as goal

pub returns : goal.returns
returns c = proof
