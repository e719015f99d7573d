use Rattle.std.proofs.Common.{IsTrue}
use Rattle.initializer_analysis.specs.Forced.{has_class}
use Rattle.initializer_analysis.specs.declared.verdict.Reason.TheVariants as reasons
use Rattle.initializer_analysis.proofs.ReasonsLemmas.{AddsBelow}
use Rattle.initializer_analysis.proofs.reasons.add_forced.Given as goal

abbrev pub invariant-loop-class : goal.invariant-loop-class
invariant-loop-class l =
    AddsBelow (λ c. IsTrue (has_class l.forced c)) reasons.Forced l.class
    l.initial.reasons l.reasons
