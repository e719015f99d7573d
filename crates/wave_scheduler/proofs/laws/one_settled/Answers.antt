use Rattle.wave_scheduler.proofs.OneSettledLemmas.{one_settled_lem as proof}
use Rattle.wave_scheduler.proofs.laws.one_settled.Goals as goal

pub returns : goal.returns
returns c = proof
