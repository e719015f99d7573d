use Rattle.std.proofs.Common.{◌≡◌, ◌++◌, length, take}
use Rattle.std.specs.List.{flat_map}
use Rattle.classfile.specs.Spelling.{u2}
use Rattle.image_writer.proofs.numbers.push_units.Given as goal

abbrev pub invariant-loop-unit : goal.invariant-loop-unit
invariant-loop-unit l =
    l.out.items ≡ l.fn.out.items ++ (u2 (length l.units) ++ flat_map u2 (take l.unit-index l.units))
