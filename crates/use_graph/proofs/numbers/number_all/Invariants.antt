use Rattle.use_graph.specs.steps.Numbers.{NumbersBelow}
use Rattle.use_graph.proofs.numbers.number_all.Given as goal

abbrev pub invariant-loop-class : goal.invariant-loop-class
invariant-loop-class l = NumbersBelow l.program l.class l.firsts.items l.methods.items
