use Rattle.use_graph.proofs.OthersLemmas.{Others}
use Rattle.use_graph.proofs.search.add_others.Given as goal

abbrev pub invariant-loop-other : goal.invariant-loop-other
invariant-loop-other l = Others l.used.items l.class l.other l.classes.items
