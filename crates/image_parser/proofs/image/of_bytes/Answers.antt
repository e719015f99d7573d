use Rattle.std.proofs.Common.{inr}
use Rattle.image_parser.specs.ImageFaults.ImageFails.{frame}
use Rattle.image_parser.proofs.ImageLemmas.{long_enough, parts_accepted, parts_refused}
use Rattle.image_parser.proofs.image.of_bytes.Goals as goal

pub of_parts-requires : goal.of_parts-requires
of_parts-requires c = long_enough c.args.bytes.now c.in-Ok.version c.in-Ok.parts.now c.in-Ok.ensures.parts

pub returns-in-Ok-clause-text : goal.returns-in-Ok-clause-text
returns-in-Ok-clause-text c =
    parts_accepted c.args.bytes.now
    c.in-Ok.version c.in-Ok.parts.now c.of_parts.result c.in-Ok.ensures.parts c.of_parts.ensures.text

pub returns-in-Ok-clause-fault : goal.returns-in-Ok-clause-fault
returns-in-Ok-clause-fault c =
    parts_refused c.args.bytes.now c.in-Ok.version c.in-Ok.parts.now c.of_parts.result c.in-Ok.ensures.parts
    c.of_parts.ensures.fault

pub returns-in-Err-clause-fault : goal.returns-in-Err-clause-fault
returns-in-Err-clause-fault c = rw (c.of_header.ensures) (inr (frame c.in-Err.fault c.in-Err.ensures.fault))
