use Rattle.region_shape.proofs.LawsLemmas.{settled_name_objects_lem, settled_hold_all_lem}
use Rattle.region_shape.proofs.regions_name_objects.Goals as goal

pub returns-clause-names : goal.returns-clause-names
returns-clause-names c = settled_name_objects_lem

pub returns-clause-all : goal.returns-clause-all
returns-clause-all c = settled_hold_all_lem
