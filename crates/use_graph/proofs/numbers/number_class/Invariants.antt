use Rattle.use_graph.specs.steps.Numbers.{Adds}
use Rattle.use_graph.proofs.numbers.number_class.Given as goal

abbrev pub invariant-loop-index : goal.invariant-loop-index
invariant-loop-index l = Adds l.class l.index l.initial.methods.items l.methods.items
