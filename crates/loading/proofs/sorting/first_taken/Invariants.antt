use Rattle.loading.proofs.LinkingPlaceLemmas.{NoneBefore}
use Rattle.loading.proofs.FilesTakenLemmas.{HasTakenName, HasArrayName}
use Rattle.loading.proofs.sorting.first_taken.Given as goal

abbrev pub invariant-loop-file : goal.invariant-loop-file
invariant-loop-file l = record {
  free : NoneBefore HasTakenName l.files l.file-index;
  plain : NoneBefore HasArrayName l.files l.file-index;
}
