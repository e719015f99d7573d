use Rattle.hierarchy.proofs.ResolutionUniqueLemmas.{same_method}
use Rattle.hierarchy.proofs.uniqueness.one_resolved_method.Goals as goal

pub returns : goal.returns
returns c = λ family key class a b g h. same_method g h
