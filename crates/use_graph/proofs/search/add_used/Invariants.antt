use Rattle.std.proofs.Common.{◌≡◌}
use Rattle.use_graph.specs.steps.Searching.{IsClassBelow}
use Rattle.use_graph.proofs.CollectedLemmas.{Collected}
use Rattle.use_graph.proofs.search.add_used.Given as goal

abbrev pub invariant-loop-class : goal.invariant-loop-class
invariant-loop-class l = record {
  limit : l.used.limit ≡ l.limit;
  collected : Collected (IsClassBelow l.limit) l.classes l.class-index l.initial.used.items l.used.items;
}
