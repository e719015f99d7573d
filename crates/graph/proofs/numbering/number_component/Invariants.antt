use Rattle.std.proofs.Common.{◌≡◌, ◌-◌, length}
use Rattle.graph.specs.steps.Numbering.{Gathering}
use Rattle.graph.proofs.numbering.number_component.Given as goal

abbrev pub invariant-loop-next : goal.invariant-loop-next
invariant-loop-next l = record {
  limit : l.seen.limit ≡ l.fn.seen.limit;
  gathering : Gathering l.back l.root l.fn.seen.items l.fn.numbers l.seen.items l.numbers l.next;
}

abbrev pub decreases-loop-next : goal.decreases-loop-next
decreases-loop-next l = length l.back - l.next
