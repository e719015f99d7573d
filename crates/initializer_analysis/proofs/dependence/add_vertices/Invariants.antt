use Rattle.initializer_analysis.specs.steps.Dependence.{IsDependenceBelow}
use Rattle.initializer_analysis.proofs.dependence.add_vertices.Given as goal

abbrev pub invariant-loop-vertex : goal.invariant-loop-vertex
invariant-loop-vertex l = IsDependenceBelow l.program l.uses l.vertex l.graph
