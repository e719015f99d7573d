use Rattle.use_graph.proofs.EdgesLemmas.{Led}
use Rattle.use_graph.proofs.call_graph.add_edges_to.Given as goal

abbrev pub invariant-loop-method : goal.invariant-loop-method
invariant-loop-method l = Led l.numbers l.initial.graph l.graph l.from l.methods l.method-index
