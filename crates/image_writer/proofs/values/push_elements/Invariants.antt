use Rattle.std.proofs.Common.{◌≡◌, ◌++◌, map, take}
use Rattle.std.specs.List.{flat_map}
use Rattle.image_format.specs.Texts.{element_text}
use Rattle.image_format.specs.Told.{told_value}
use Rattle.image_writer.proofs.values.push_elements.Given as goal

abbrev pub invariant-loop-slot : goal.invariant-loop-slot
invariant-loop-slot l =
    l.out.items ≡ l.fn.out.items
    ++ flat_map (element_text l.kind) (map (told_value l.program.strings) (take l.slot l.slots))
