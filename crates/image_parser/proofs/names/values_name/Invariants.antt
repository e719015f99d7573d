use Rattle.image_parser.specs.reading.Named.{AllBelow, SlotNames}
use Rattle.image_parser.proofs.names.values_name.Given as goal

abbrev pub invariant-loop-slot : goal.invariant-loop-slot
invariant-loop-slot l = AllBelow (SlotNames l.regions l.slots) l.slot
