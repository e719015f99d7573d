use Rattle.std.proofs.Common.{arith}
use Rattle.image_parser.specs.reading.Named.{SlotNames}
use Rattle.image_parser.proofs.NamesLemmas.{all_below, misses_below, more_below}
use Rattle.image_parser.proofs.names.values_name.Goals as goal

pub loop-slot-init : goal.loop-slot-init
loop-slot-init c = λ k low. absurd (omega (arith, low))

pub loop-slot-preserved : goal.loop-slot-preserved
loop-slot-preserved c =
    more_below (SlotNames c.args.regions.now c.args.slots.now) c.loop-slot.slot c.loop-slot.invariant
    (c.slot_names.ensures.0 (let on = c.if-not-slot_names.false in cc))

pub returns-then-not-slot_names : goal.returns-then-not-slot_names
returns-then-not-slot_names c =
    misses_below (SlotNames c.args.regions.now c.args.slots.now) _ c.loop-slot.slot (omega arith)
    (λ h. let on = c.slot_names.ensures.1 h in let off = c.if-not-slot_names.true in cc)

pub returns : goal.returns
returns c = all_below (SlotNames c.args.regions.now c.args.slots.now) _ c.loop-slot.slot
    (omega arith) c.loop-slot.invariant
