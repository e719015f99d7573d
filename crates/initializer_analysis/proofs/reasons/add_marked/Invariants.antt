use Rattle.use_graph.specs.Uses.{HasMark}
use Rattle.initializer_analysis.specs.declared.verdict.Reason.TheVariants as reasons
use Rattle.initializer_analysis.proofs.ReasonsLemmas.{AddsBelow}
use Rattle.initializer_analysis.proofs.reasons.add_marked.Given as goal

abbrev pub invariant-loop-class : goal.invariant-loop-class
invariant-loop-class l =
    AddsBelow (λ c. HasMark l.program c l.mark) (reasons.Marked l.mark) l.class
    l.initial.reasons l.reasons
