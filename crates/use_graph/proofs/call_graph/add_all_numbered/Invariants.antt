use Rattle.use_graph.proofs.CallGraphLemmas.{Done}
use Rattle.use_graph.proofs.call_graph.add_all_numbered.Given as goal

abbrev pub invariant-loop-number : goal.invariant-loop-number
invariant-loop-number l = Done l.program l.numbers l.graph l.groups l.number
