use Rattle.hierarchy.proofs.UniquenessLemmas.{same_superclasses}
use Rattle.hierarchy.proofs.uniqueness.one_superclass_list.Goals as goal

pub returns : goal.returns
returns c = λ family k a b g h. same_superclasses g h
