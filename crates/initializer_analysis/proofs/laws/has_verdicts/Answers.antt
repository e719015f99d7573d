use Rattle.initializer_analysis.proofs.HasVerdictsLemmas.{has_verdicts_lem as proof}
use Rattle.initializer_analysis.proofs.laws.has_verdicts.Goals as goal

pub returns : goal.returns
returns c = proof
