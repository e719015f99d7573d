use Rattle.program.proofs.OneListOfSignaturesLemmas.{one_return_kind}
use Rattle.program.proofs.parts.one_return_kind.Goals as goal

pub returns : goal.returns
returns c = one_return_kind
