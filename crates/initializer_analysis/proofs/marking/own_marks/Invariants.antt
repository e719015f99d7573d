use Rattle.std.proofs.Common.{◌≡◌, length}
use Rattle.initializer_analysis.specs.steps.Marking.{IsMarkedBy}
use Rattle.initializer_analysis.proofs.LabelsLemmas.{HasLeastBelow}
use Rattle.initializer_analysis.proofs.marking.own_marks.Given as goal

abbrev pub invariant-loop-vertex : goal.invariant-loop-vertex
invariant-loop-vertex l = record {
  len : length l.own.items ≡ l.vertex;
  below : HasLeastBelow (IsMarkedBy l.uses.bodies.items l.mark) l.vertex l.own.items;
}
