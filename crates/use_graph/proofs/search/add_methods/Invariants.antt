use Rattle.use_graph.specs.steps.Searching.{IsMethodAt}
use Rattle.use_graph.proofs.CollectedLemmas.{Collected}
use Rattle.use_graph.proofs.ListedLemmas.{ListedBelow}
use Rattle.use_graph.proofs.search.add_methods.Given as goal

abbrev pub invariant-loop-place : goal.invariant-loop-place
invariant-loop-place l = record {
  collected : Collected (IsMethodAt l.graph.methods) l.reached.items l.place l.initial.methods.items l.methods.items;
  listed : ListedBelow l.graph.methods l.reached.items l.place l.methods.items;
}
