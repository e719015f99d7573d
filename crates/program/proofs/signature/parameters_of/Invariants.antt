use Rattle.std.proofs.Common.{length}
use Rattle.program.proofs.SignatureLemmas.{AreLeft}
use Rattle.program.proofs.signature.parameters_of.Given as goal

abbrev pub invariant-loop-rest : goal.invariant-loop-rest
invariant-loop-rest l = AreLeft l.fn.text l.kinds.items l.rest

abbrev pub decreases-loop-rest : goal.decreases-loop-rest
decreases-loop-rest l = length l.rest
