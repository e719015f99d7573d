use Rattle.std.proofs.Common.{◌≡◌}
use Rattle.use_graph.specs.steps.Searching.{IsNeededAt}
use Rattle.use_graph.proofs.CollectedLemmas.{Collected}
use Rattle.use_graph.proofs.search.add_needed.Given as goal

abbrev pub invariant-loop-place : goal.invariant-loop-place
invariant-loop-place l = record {
  limit : l.used.limit ≡ l.limit;
  collected : Collected (IsNeededAt l.graph.bodies.items l.limit) l.reached.items l.place l.initial.used.items
      l.used.items;
}
