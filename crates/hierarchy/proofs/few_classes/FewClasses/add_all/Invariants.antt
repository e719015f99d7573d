use Rattle.std.proofs.Common.{take}
use Rattle.graph.specs.steps.Adds.{Adds}
use Rattle.hierarchy.proofs.few_classes.FewClasses.add_all.Given as goal

abbrev pub invariant-loop-class : goal.invariant-loop-class
invariant-loop-class l = Adds l.initial.self (take l.class-index l.classes) l.self
