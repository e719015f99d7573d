use Rattle.std.proofs.Common.{◌∙◌, sym, rules}
use Rattle.image_parser.proofs.ValueReadsLemmas.{int_held}
use Rattle.image_parser.proofs.values.int_at.Goals as goal

pub returns : goal.returns
returns c P =
    int_held P c.args.kind c.args.bytes.now c.in_ok-bits.rest.now c.in_ok-bits.bits _ _ c.in_ok-bits.ensures
    (sym c.is_in_range.ensures ∙ (let on = c.if-not-is_in_range.false in cc)) (search rules) (search rules)
