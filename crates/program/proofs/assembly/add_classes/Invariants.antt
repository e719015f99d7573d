use Rattle.std.proofs.Common.{◌≡◌, take}
use Rattle.std.specs.List.{AllZip}
use Rattle.program.specs.declared.class.Class.{Class}
use Rattle.loading.specs.declared.given.GivenClass.{GivenClass}
use Rattle.program.specs.steps.Frames.{IsBareClass}
use Rattle.program.specs.Strings.{all_strings}
use Rattle.program.specs.steps.GrowingStrings.{Gains}
use Rattle.program.proofs.assembly.add_classes.Given as goal

abbrev pub invariant-loop-number : goal.invariant-loop-number
invariant-loop-number l = record {
  members : l.members ≡ l.initial.members;
  classes :
      AllZip (λ (given : GivenClass) (class : Class).
      IsBareClass l.linker.hierarchy.now.family l.strings given.file class)
      (take l.number l.linker.hierarchy.now.family) l.classes.items;
  gains : Gains l.initial.strings (all_strings (take l.number l.linker.hierarchy.now.family)) l.strings;
}
