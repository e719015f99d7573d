use Rattle.std.proofs.Common.{IsTrue, false, slice_index_or}
use Rattle.initializer_analysis.specs.declared.verdict.Reason.TheVariants as reasons
use Rattle.initializer_analysis.proofs.ReasonsLemmas.{AddsBelow}
use Rattle.initializer_analysis.proofs.reasons.add_cycles.Given as goal

abbrev pub invariant-loop-place : goal.invariant-loop-place
invariant-loop-place l =
    AddsBelow (λ c. IsTrue (slice_index_or l.on_cycle c false)) reasons.Cycle l.place
    l.initial.reasons l.reasons
