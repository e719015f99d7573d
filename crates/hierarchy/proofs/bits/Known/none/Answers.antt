use Rattle.hierarchy.proofs.KnownLemmas.{knows_nothing}
use Rattle.hierarchy.proofs.bits.Known.none.Goals as goal

pub returns : goal.returns
returns c = λ family declares d k n. knows_nothing family declares d k n
