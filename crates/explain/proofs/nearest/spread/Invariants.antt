use Rattle.std.proofs.Common.{◌*◌, ◌-◌, length}
use Rattle.explain.proofs.FoundLemmas.{IsSpread}
use Rattle.explain.proofs.nearest.spread.Given as goal

abbrev pub invariant-loop-next : goal.invariant-loop-next
invariant-loop-next l = IsSpread l.back l.sources l.pairs l.found.items l.next

abbrev pub decreases-loop-next : goal.decreases-loop-next
decreases-loop-next l = 2 * length l.back - l.next
