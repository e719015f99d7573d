use Rattle.hierarchy.proofs.UniquenessLemmas.{same_search}
use Rattle.hierarchy.proofs.uniqueness.one_search_result.Goals as goal

pub returns : goal.returns
returns c = λ family own cs a b g h. same_search g h
