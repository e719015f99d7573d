use Rattle.hierarchy.proofs.ResolutionUniqueLemmas.{same_field}
use Rattle.hierarchy.proofs.uniqueness.one_resolved_field.Goals as goal

pub returns : goal.returns
returns c = λ family key class a b g h. same_field g h
