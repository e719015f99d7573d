use Rattle.explain.specs.steps.Marking.{AreSourcesBelow}
use Rattle.explain.proofs.evidences.sources_of.Given as goal

abbrev pub invariant-loop-vertex : goal.invariant-loop-vertex
invariant-loop-vertex l = AreSourcesBelow l.uses l.mark l.vertex l.sources.items
