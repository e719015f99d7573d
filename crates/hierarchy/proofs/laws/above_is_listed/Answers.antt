use Rattle.hierarchy.proofs.SubclassesLemmas.{above_tells}
use Rattle.hierarchy.proofs.laws.above_is_listed.Goals as goal

pub returns : goal.returns
returns c = λ family c d fits within. above_tells family c d fits within
