use Rattle.std.proofs.Common.{◌≡◌, take}
use Rattle.classfile.specs.Units.{units_text}
use Rattle.classfile.proofs.modified.ModifiedUtf8.from_units.Given as goal

abbrev pub invariant-loop-unit : goal.invariant-loop-unit
invariant-loop-unit l = l.bytes.items ≡ units_text (take l.unit-index l.units)
