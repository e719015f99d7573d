use Rattle.hierarchy.proofs.FlagLemmas.{flagged_none}
use Rattle.hierarchy.proofs.class_set.ClassSet.none.Goals as goal

pub invariant_of-result : goal.invariant_of-result
invariant_of-result c = flagged_none 65536 _
