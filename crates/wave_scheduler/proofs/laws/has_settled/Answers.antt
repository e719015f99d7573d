use Rattle.wave_scheduler.proofs.FollowerLemmas.{has_settled_lem as proof}
use Rattle.wave_scheduler.proofs.laws.has_settled.Goals as goal

pub returns : goal.returns
returns c = proof
