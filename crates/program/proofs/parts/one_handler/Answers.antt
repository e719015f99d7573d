use Rattle.program.proofs.OneImplementationLemmas.{one_handler}
use Rattle.program.proofs.parts.one_handler.Goals as goal

pub returns : goal.returns
returns c = one_handler
