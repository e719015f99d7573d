use Rattle.loading.proofs.FilesTwiceLemmas.{Apart}
use Rattle.loading.proofs.sorting.first_twice.Given as goal

abbrev pub invariant-loop-next : goal.invariant-loop-next
invariant-loop-next l = Apart l.files l.next
