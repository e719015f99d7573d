use Rattle.image_parser.proofs.ReadsLemmas.{text_held}
use Rattle.image_parser.proofs.values.text_at.Goals as goal

pub add_string-requires : goal.add_string-requires
add_string-requires c = rw c.as_slice.ensures.value c.in_ok-units.ensures.few

pub returns : goal.returns
returns c =
    let added = c.in_ok-number.ensures in
    text_held c.args.program.now c.add_string.new.self c.args.bytes.now c.in_ok-units.rest.now c.in_ok-units.units.items
    c.in_ok-number.number c.in_ok-units.ensures.units (rw c.as_slice.ensures.value at added.number)
    (rw c.as_slice.ensures.value at added.strings) added.family added.orders added.classes added.program
