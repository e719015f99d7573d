use Rattle.graph.specs.steps.Reverse.{IsReverseBelow}
use Rattle.graph.proofs.reverse.reversed.Given as goal

abbrev pub invariant-loop-vertex : goal.invariant-loop-vertex
invariant-loop-vertex l = IsReverseBelow l.graph l.back l.vertex
