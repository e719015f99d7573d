use Rattle.initializer_analysis.proofs.OthersLemmas.{AreOthersBelow}
use Rattle.initializer_analysis.proofs.cycles.cycles_by.Given as goal

abbrev pub invariant-loop-class : goal.invariant-loop-class
invariant-loop-class l = AreOthersBelow l.uses l.components.numbers l.limit l.class l.on_cycle.items
