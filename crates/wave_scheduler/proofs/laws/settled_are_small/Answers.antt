use Rattle.wave_scheduler.proofs.WholesLemmas.{settled_are_small_lem as proof}
use Rattle.wave_scheduler.proofs.laws.settled_are_small.Goals as goal

pub returns : goal.returns
returns c = proof
