use Rattle.std.proofs.Common.{◌-◌}
use Rattle.hierarchy.proofs.ClassSetLemmas.{Climbing}
use Rattle.hierarchy.proofs.few_classes.FewClasses.add_above.Given as goal

abbrev pub invariant-loop-next : goal.invariant-loop-next
invariant-loop-next l = Climbing l.family l.initial.self l.self l.next

abbrev pub decreases-loop-next : goal.decreases-loop-next
decreases-loop-next l = 64 - l.next
