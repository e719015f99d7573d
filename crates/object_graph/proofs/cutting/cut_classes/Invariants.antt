use Rattle.object_graph.proofs.CuttingLemmas.{IsCutBelow}
use Rattle.object_graph.proofs.cutting.cut_classes.Given as goal

abbrev pub invariant-loop-class : goal.invariant-loop-class
invariant-loop-class l = IsCutBelow l.found l.fn.regions l.class l.regions
