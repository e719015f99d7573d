use Rattle.std.proofs.Common.{take}
use Rattle.std.specs.List.{AllZip}
use Rattle.loading.specs.steps.Linking.{AreParents}
use Rattle.loading.proofs.linking.all_parents.Given as goal

abbrev pub invariant-loop-file : goal.invariant-loop-file
invariant-loop-file l = AllZip (AreParents l.files) (take l.file-index l.files) l.parents.items
