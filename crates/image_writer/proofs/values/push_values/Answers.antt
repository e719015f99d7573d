use Rattle.std.proofs.Common.{sym, subst, arith}
use Rattle.std.proofs.lemmas.Option.{get_or_from_slice_get}
use Rattle.image_format.specs.Texts.{value_text}
use Rattle.image_format.specs.Told.{told_value}
use Rattle.image_writer.specs.steps.Sizes.{IsSizedValue}
use Rattle.image_writer.proofs.TextLemmas.{told_one_more}
use Rattle.image_writer.proofs.values.push_values.Goals as goal

pub loop-slot-preserved : goal.loop-slot-preserved
loop-slot-preserved c =
    let there = get_or_from_slice_get c.args.slots.now c.loop-slot.slot c.in-Some.value c.in-Some.value
    (sym c.in-Some.ensures) in
    told_one_more value_text (told_value c.args.program.now.strings) c.args.slots.now c.loop-slot.slot
    c.in-Some.value c.loop-slot.out.items c.push_value.new.out.items c.args.out.now.items (omega arith) (sym there)
    c.loop-slot.invariant c.in_ok-push_value.ensures

pub push_value-requires-clause-sized : goal.push_value-requires-clause-sized
push_value-requires-clause-sized c =
    subst IsSizedValue
    (get_or_from_slice_get c.args.slots.now c.loop-slot.slot c.in-Some.value c.in-Some.value (sym c.in-Some.ensures))
    (c.requires.sized c.loop-slot.slot c.in-Some.value (omega arith))
