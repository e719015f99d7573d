use Rattle.program.proofs.OneImplementationLemmas.{one_implementation}
use Rattle.program.proofs.parts.one_implementation.Goals as goal

pub returns : goal.returns
returns c = one_implementation
