use Rattle.region_shape.proofs.TextsLemmas.{settled_have_texts_lem}
use Rattle.region_shape.proofs.regions_have_texts.Goals as goal

pub returns : goal.returns
returns c = settled_have_texts_lem
