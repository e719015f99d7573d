use Rattle.loading.proofs.LinkingGraphLemmas.{HasRows}
use Rattle.loading.proofs.cycle.graph_of.Given as goal

abbrev pub invariant-loop-number : goal.invariant-loop-number
invariant-loop-number l = HasRows l.classes l.number l.graph
