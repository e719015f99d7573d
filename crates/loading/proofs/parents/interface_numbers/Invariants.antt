use Rattle.std.proofs.Common.{take}
use Rattle.loading.specs.steps.FoundNames.{AreTheirNumbers}
use Rattle.loading.proofs.parents.interface_numbers.Given as goal

abbrev pub invariant-loop-class : goal.invariant-loop-class
invariant-loop-class l = AreTheirNumbers l.files (take l.class-index l.classes) l.numbers.items
