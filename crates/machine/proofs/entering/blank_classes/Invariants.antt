use Rattle.std.proofs.Common.{◌≡◌, take}
use Rattle.machine.specs.Linked.{blank_areas}
use Rattle.machine.proofs.entering.blank_classes.Given as goal

abbrev pub invariant-loop-class : goal.invariant-loop-class
invariant-loop-class l = l.classes ≡ blank_areas (take l.class-index l.given)
