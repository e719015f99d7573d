use Rattle.initializer_analysis.specs.declared.verdict.Verdict.TheVariants.{Wave}
use Rattle.initializer_analysis.proofs.OthersLemmas.{HoldsBelow}
use Rattle.initializer_analysis.proofs.LabelsOfClassesLemmas.{IsVerdictBy}
use Rattle.initializer_analysis.proofs.judging.verdicts_by.Given as goal

abbrev pub invariant-loop-class : goal.invariant-loop-class
invariant-loop-class l =
    HoldsBelow (IsVerdictBy l.uses l.reasons l.first l.heights) (Wave 0) l.class l.verdicts.items
