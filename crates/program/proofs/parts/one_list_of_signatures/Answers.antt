use Rattle.program.proofs.OneListOfSignaturesLemmas.{one_list_of_signatures}
use Rattle.program.proofs.parts.one_list_of_signatures.Goals as goal

pub returns : goal.returns
returns c = one_list_of_signatures
