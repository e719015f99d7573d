use Rattle.hierarchy.proofs.ResolutionUniqueLemmas.{same_selection}
use Rattle.hierarchy.proofs.uniqueness.one_selected_method.Goals as goal

pub returns : goal.returns
returns c = λ family class m a b g h. same_selection g h
