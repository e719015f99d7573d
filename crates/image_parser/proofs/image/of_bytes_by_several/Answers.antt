use Rattle.std.proofs.Common.{inr}
use Rattle.image_parser.specs.ImageFaults.ImageFails.{frame}
use Rattle.image_parser.proofs.image.of_bytes_by_several.Goals as goal

pub returns-in-Err-clause-fault : goal.returns-in-Err-clause-fault
returns-in-Err-clause-fault g c = rw (c.of_header.ensures) (inr (frame c.in-Err.fault c.in-Err.ensures.fault))
