use Rattle.initializer_analysis.specs.steps.Dependence.{IsVertexOf}
use Rattle.initializer_analysis.proofs.AddsFromLemmas.{AddedFor}
use Rattle.initializer_analysis.proofs.dependence.add_classes.Given as goal

abbrev pub invariant-loop-class : goal.invariant-loop-class
invariant-loop-class l = AddedFor (IsVertexOf l.program l.uses) l.classes l.initial.graph l.from l.class-index l.graph
