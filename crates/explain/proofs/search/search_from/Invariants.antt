use Rattle.std.proofs.Common.{◌≡◌, ◌-◌, [], ◌∷◌, Some, length, slice_get}
use Rattle.graph.proofs.AddsLemmas.{Searching}
use Rattle.explain.specs.steps.Trees.{IsTree}
use Rattle.explain.proofs.search.search_from.Given as goal

abbrev pub invariant-loop-next : goal.invariant-loop-next
invariant-loop-next l = record {
  limit : l.seen.limit ≡ length l.graph;
  searching : Searching l.graph (l.from ∷ []) l.seen.items l.next;
  tree : IsTree l.graph l.seen.items l.finders.items;
  root : slice_get l.seen.items 0 ≡ Some l.from;
}

abbrev pub decreases-loop-next : goal.decreases-loop-next
decreases-loop-next l = length l.graph - l.next
