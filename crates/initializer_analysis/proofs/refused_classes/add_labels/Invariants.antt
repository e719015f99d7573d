use Rattle.initializer_analysis.specs.steps.Judging.{Labelled}
use Rattle.initializer_analysis.proofs.refused_classes.add_labels.Given as goal

abbrev pub invariant-loop-class : goal.invariant-loop-class
invariant-loop-class l = Labelled l.reasons l.class l.initial.own.items l.own.items
