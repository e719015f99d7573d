use Rattle.std.proofs.Common.{rules}
use Rattle.image_parser.proofs.ValueReadsLemmas.{long_held}
use Rattle.image_parser.proofs.values.long_at.Goals as goal

pub returns : goal.returns
returns c P =
    long_held P c.args.bytes.now c.in_ok-bits.rest.now c.in_ok-bits.bits _ c.in_ok-bits.ensures (search rules)
