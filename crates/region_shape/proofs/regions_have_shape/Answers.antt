use Rattle.region_shape.proofs.LawsLemmas.{settled_have_shape_lem, settled_are_within_lem}
use Rattle.region_shape.proofs.regions_have_shape.Goals as goal

pub returns-clause-settled : goal.returns-clause-settled
returns-clause-settled c = settled_have_shape_lem

pub returns-clause-within : goal.returns-clause-within
returns-clause-within c = settled_are_within_lem
