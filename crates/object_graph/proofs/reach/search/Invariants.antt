use Rattle.std.proofs.Common.{◌-◌, ◌^◌}
use Rattle.object_graph.proofs.SearchLemmas.{Searching}
use Rattle.object_graph.proofs.reach.search.Given as goal

abbrev pub invariant-loop-next : goal.invariant-loop-next
invariant-loop-next l = Searching l.program l.regions l.found l.next

abbrev pub decreases-loop-next : goal.decreases-loop-next
decreases-loop-next l = 2 ^ 64 - l.next
