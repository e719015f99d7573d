use Rattle.std.proofs.Common.{arith}
use Rattle.image_parser.proofs.ImageLaw.{is_parsed}
use Rattle.image_parser.proofs.image.parse.Goals as goal

pub returns : goal.returns
returns c =
    is_parsed c.args.bytes.now (λ i. omega (arith, c.type_inv.bytes i)) c.of_bytes.result c.of_bytes.ensures.text
    c.of_bytes.ensures.program c.of_bytes.ensures.files c.of_bytes.ensures.fault
