use Rattle.initializer_analysis.proofs.VerdictsLemmas.{waves_fall as proof}
use Rattle.initializer_analysis.proofs.laws.waves_fall.Goals as goal

pub returns : goal.returns
returns c = proof
