use Rattle.wave_scheduler.proofs.HeadlineLemmas.{settled_show_the_same_lem as proof}
use Rattle.wave_scheduler.proofs.laws.settled_show_the_same.Goals as goal

pub returns : goal.returns
returns c = proof
