use Rattle.semantics.proofs.AnswerLemmas.{answers_decide_lem}
use Rattle.semantics.proofs.answers_decide.Goals as goal

pub returns : goal.returns
returns c = answers_decide_lem
