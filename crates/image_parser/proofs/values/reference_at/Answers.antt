use Rattle.image_parser.proofs.ValueReadsLemmas.{reference_held}
use Rattle.image_parser.proofs.values.reference_at.Goals as goal

pub returns : goal.returns
returns c P =
    rw c.from.ensures
    (reference_held P c.args.bytes.now c.in_ok-class.rest.now c.in_ok-number.rest.now c.in_ok-class.class
    c.in_ok-number.number c.in_ok-class.ensures c.in_ok-number.ensures)
