use Rattle.semantics.proofs.ExactImagesLemmas.{lazy_to_image_lem}
use Rattle.semantics.proofs.lazy_to_image.Goals as goal

pub returns : goal.returns
returns c = lazy_to_image_lem
