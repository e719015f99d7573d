use Rattle.std.proofs.Common.{IsTrue, None, false, slice_index_or, refl, arith}
use Rattle.initializer_analysis.specs.declared.verdict.Reason.TheVariants as reasons
use Rattle.initializer_analysis.proofs.ReasonsLemmas.{adds_more, adds_all}
use Rattle.initializer_analysis.proofs.reasons.add_cycles.Goals as goal

pub loop-place-preserved : goal.loop-place-preserved
loop-place-preserved c =
    adds_more (λ d. IsTrue (slice_index_or c.args.on_cycle.now d false)) reasons.Cycle c.loop-place.place
    c.args.reasons.now c.loop-place.reasons (slice_index_or c.loop-place.reasons c.loop-place.place None)
    c.next_reason-next.result (slice_index_or c.args.on_cycle.now c.loop-place.place false) (omega arith) refl
    c.loop-place.invariant (λ h. h, λ h. h) c.next_reason-next.ensures

pub returns : goal.returns
returns c =
    adds_all (λ d. IsTrue (slice_index_or c.args.on_cycle.now d false)) reasons.Cycle c.loop-place.place
    c.args.reasons.now c.loop-place.reasons (omega arith) c.loop-place.invariant
