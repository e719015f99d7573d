use Rattle.std.proofs.Common.{false}
use Rattle.initializer_analysis.proofs.OthersLemmas.{HoldsBelow}
use Rattle.initializer_analysis.proofs.LabelsOfClassesLemmas.{TellsFirst}
use Rattle.initializer_analysis.proofs.refused_classes.labelled_classes.Given as goal

abbrev pub invariant-loop-class : goal.invariant-loop-class
invariant-loop-class l = HoldsBelow (TellsFirst l.uses l.least) false l.class l.there.items
