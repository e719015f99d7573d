use Rattle.evaluator.proofs.LentLemmas.{settleable_are_unbarred_lem}
use Rattle.evaluator.proofs.laws.settleable_are_unbarred.Goals as goal

pub returns : goal.returns
returns c = settleable_are_unbarred_lem
