use Rattle.std.proofs.Common.{}
use Rattle.program.specs.steps.NamedClasses.{AreNamed}
use Rattle.program.proofs.named_classes.classes_of.Given as goal

abbrev pub invariant-loop-constant : goal.invariant-loop-constant
invariant-loop-constant l = AreNamed l.family l.file l.classes.items
