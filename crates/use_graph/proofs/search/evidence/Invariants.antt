use Rattle.use_graph.specs.steps.Searching.{Unmarked}
use Rattle.use_graph.proofs.CollectedLemmas.{EachBefore}
use Rattle.use_graph.proofs.search.evidence.Given as goal

abbrev pub invariant-loop-place : goal.invariant-loop-place
invariant-loop-place l = EachBefore l.reached.items (Unmarked l.graph l.class l.mark) l.place
