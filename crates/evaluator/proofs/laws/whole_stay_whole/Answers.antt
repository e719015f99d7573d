use Rattle.evaluator.proofs.PutLemmas.{whole_stay_whole_lem as proof}
use Rattle.evaluator.proofs.laws.whole_stay_whole.Goals as goal

pub returns : goal.returns
returns c = proof
