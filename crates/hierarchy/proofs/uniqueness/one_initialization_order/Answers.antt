use Rattle.hierarchy.proofs.UniquenessLemmas.{same_order}
use Rattle.hierarchy.proofs.uniqueness.one_initialization_order.Goals as goal

pub returns : goal.returns
returns c = λ family k a b g h. same_order g h
