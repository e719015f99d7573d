use Rattle.wave_scheduler.proofs.AnalysisLemmas.{has_analysis_lem as proof}
use Rattle.wave_scheduler.proofs.laws.has_analysis.Goals as goal

pub returns : goal.returns
returns c = proof
