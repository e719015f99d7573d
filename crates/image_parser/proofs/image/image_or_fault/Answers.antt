use Rattle.image_parser.proofs.ImageLaw.{one_of, not_two}
use Rattle.image_parser.proofs.image.image_or_fault.Goals as goal

pub returns : goal.returns
returns c = record { one = one_of; version = not_two }
