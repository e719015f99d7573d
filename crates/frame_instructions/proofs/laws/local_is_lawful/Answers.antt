use Rattle.frame_instructions.proofs.FamiliesNameLemmas.{local_names_lem}
use Rattle.frame_instructions.proofs.FamiliesPlaceLemmas.{local_methods_lem, straight_places_lem}
use Rattle.frame_instructions.proofs.laws.local_is_lawful.Goals as goal

pub returns-clause-names : goal.returns-clause-names
returns-clause-names c = local_names_lem

pub returns-clause-methods : goal.returns-clause-methods
returns-clause-methods c = local_methods_lem

pub returns-clause-places : goal.returns-clause-places
returns-clause-places c = straight_places_lem
