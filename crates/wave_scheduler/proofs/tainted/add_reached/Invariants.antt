use Rattle.std.proofs.Common.{◌≡◌, ◌-◌, length}
use Rattle.wave_scheduler.proofs.SpreadingLemmas.{Spreading}
use Rattle.wave_scheduler.proofs.tainted.add_reached.Given as goal

abbrev pub invariant-loop-next : goal.invariant-loop-next
invariant-loop-next l = record {
  limit : l.seen.limit ≡ length l.graph;
  spreading : Spreading l.graph l.vertex l.fn.seen.items l.seen.items l.next;
}

abbrev pub decreases-loop-next : goal.decreases-loop-next
decreases-loop-next l = length l.graph - l.next
