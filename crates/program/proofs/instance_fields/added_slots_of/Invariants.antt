use Rattle.std.proofs.Common.{take}
use Rattle.std.specs.List.{AllZip}
use Rattle.program.specs.steps.Slots.{AreAdded}
use Rattle.program.proofs.instance_fields.added_slots_of.Given as goal

abbrev pub invariant-loop-given : goal.invariant-loop-given
invariant-loop-given l = AllZip AreAdded (take l.given-index l.classes) l.added.items
