use Rattle.wave_scheduler.proofs.TriedLemmas.{never_barred_lem as proof}
use Rattle.wave_scheduler.proofs.laws.never_barred.Goals as goal

pub returns : goal.returns
returns c = proof
