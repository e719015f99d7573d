use Rattle.std.proofs.Common.{◌≡◌, ◌++◌, length}
use Rattle.classfile.specs.Printing.{units_of}
use Rattle.classfile.proofs.modified.units_of.Given as goal

abbrev pub invariant-loop-unit : goal.invariant-loop-unit
invariant-loop-unit l = l.units.items ++ units_of l.left ≡ units_of l.bytes

abbrev pub decreases-loop-unit : goal.decreases-loop-unit
decreases-loop-unit l = length l.left
