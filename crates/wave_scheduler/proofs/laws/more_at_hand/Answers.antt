use Rattle.wave_scheduler.proofs.MoreAtHandLemmas.{more_at_hand_lem as proof}
use Rattle.wave_scheduler.proofs.laws.more_at_hand.Goals as goal

pub returns : goal.returns
returns c = proof
