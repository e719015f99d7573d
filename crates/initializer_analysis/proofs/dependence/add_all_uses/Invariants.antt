use Rattle.initializer_analysis.specs.steps.Dependence.{vertex_of, IsDependenceBelow}
use Rattle.initializer_analysis.proofs.dependence.add_all_uses.Given as goal

abbrev pub invariant-loop-class : goal.invariant-loop-class
invariant-loop-class l = IsDependenceBelow l.program l.uses (vertex_of l.uses l.class) l.graph
