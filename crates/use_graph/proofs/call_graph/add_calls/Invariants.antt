use Rattle.use_graph.proofs.CallGraphLemmas.{Led}
use Rattle.use_graph.proofs.call_graph.add_calls.Given as goal

abbrev pub invariant-loop-deed : goal.invariant-loop-deed
invariant-loop-deed l = Led l.program l.numbers l.initial.graph l.graph l.groups l.from l.deeds l.deed-index
