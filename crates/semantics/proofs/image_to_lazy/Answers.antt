use Rattle.semantics.proofs.ExactImagesLemmas.{image_to_lazy_lem}
use Rattle.semantics.proofs.image_to_lazy.Goals as goal

pub returns : goal.returns
returns c = image_to_lazy_lem
