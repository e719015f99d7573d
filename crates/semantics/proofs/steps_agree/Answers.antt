use Rattle.semantics.proofs.BigStepsLemmas.{steps_agree_lem}
use Rattle.semantics.proofs.steps_agree.Goals as goal

pub returns : goal.returns
returns c = steps_agree_lem
