use Rattle.initializer_analysis.proofs.VerdictsLemmas.{one_verdict as proof}
use Rattle.initializer_analysis.proofs.laws.one_verdict.Goals as goal

pub returns : goal.returns
returns c = proof
