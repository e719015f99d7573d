use Rattle.std.proofs.Common.{rules}
use Rattle.image_parser.specs.reading.Results.{number_at}
use Rattle.std.specs.Int.{w8}
use Rattle.image_parser.specs.reading.Values.{byte_of_bits}
use Rattle.image_parser.proofs.ValueReadsLemmas.{made_held}
use Rattle.image_parser.proofs.values.byte_at.Goals as goal

pub returns : goal.returns
returns c P =
    made_held P byte_of_bits c.in_ok-bits.bits _ c.in_ok-bits.rest.now
    (number_at w8 c.args.bytes.now) c.in_ok-bits.ensures
    (search rules)
