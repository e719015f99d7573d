use Rattle.std.proofs.Common.{arith}
use Rattle.image_parser.proofs.ImageLaw.{is_parsed}
use Rattle.image_parser.proofs.image.parse_by_several.Goals as goal

pub returns : goal.returns
returns g c =
    is_parsed c.args.bytes.now (λ i. omega (arith, c.type_inv.bytes i)) c.of_bytes_by_several.result
    c.of_bytes_by_several.ensures.text
    c.of_bytes_by_several.ensures.program c.of_bytes_by_several.ensures.files c.of_bytes_by_several.ensures.fault
