use Rattle.loading.specs.steps.FoundNames.{AreFound}
use Rattle.loading.proofs.LinkingInterfaceLemmas.{AreNamedSoFar}
use Rattle.loading.proofs.parents.named_classes.Given as goal

abbrev pub invariant-loop-index : goal.invariant-loop-index
invariant-loop-index l = record {
  found : AreFound l.files l.file l.found.items;
  named : AreNamedSoFar l.files l.file l.index-index l.classes.items;
}
