use Rattle.std.proofs.Common.{◌≡◌, length}
use Rattle.use_graph.specs.declared.mark.Mark.{Mark}
use Rattle.explain.specs.steps.Marking.{IsMarking}
use Rattle.explain.proofs.MarkingLemmas.{AreToldBelow}
use Rattle.explain.proofs.evidences.evidences_in.Given as goal

abbrev pub invariant-loop-class : goal.invariant-loop-class
invariant-loop-class l = record {
  len : length l.evidences.items ≡ l.class;
  told : (mark : Mark) → IsMarking l.uses mark l.pairs → AreToldBelow l.program mark l.class l.evidences.items;
}
