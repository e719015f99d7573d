use Rattle.wave_scheduler.proofs.WholesLemmas.{settled_are_whole_lem as proof}
use Rattle.wave_scheduler.proofs.laws.settled_are_whole.Goals as goal

pub returns : goal.returns
returns c = proof
