use Rattle.std.proofs.Common.{take}
use Rattle.std.specs.List.{AllZip}
use Rattle.program.specs.Programs.{IsImplementation}
use Rattle.program.proofs.methods.methods_of.Given as goal

abbrev pub invariant-loop-method : goal.invariant-loop-method
invariant-loop-method l =
    AllZip (IsImplementation l.linked.family.now l.linked.file.now) (take l.method-index l.methods)
    l.implementations.items
