use Rattle.std.proofs.Common.{◌∙◌, IsTrue, None, slice_index_or, refl, sym, arith}
use Rattle.initializer_analysis.specs.Forced.{has_class}
use Rattle.initializer_analysis.specs.declared.verdict.Reason.TheVariants as reasons
use Rattle.initializer_analysis.proofs.ReasonsLemmas.{adds_more, adds_all}
use Rattle.initializer_analysis.proofs.reasons.add_forced.Goals as goal

pub loop-class-preserved : goal.loop-class-preserved
loop-class-preserved c =
    adds_more (λ d. IsTrue (has_class c.args.forced.now d)) reasons.Forced c.loop-class.class c.args.reasons.now
    c.loop-class.reasons (slice_index_or c.loop-class.reasons c.loop-class.class None) c.next_reason-next.result
    c.has.result (omega arith) refl c.loop-class.invariant
    (λ h. sym c.has.ensures ∙ h, λ h. c.has.ensures ∙ h) c.next_reason-next.ensures

pub returns : goal.returns
returns c =
    adds_all (λ d. IsTrue (has_class c.args.forced.now d)) reasons.Forced c.loop-class.class c.args.reasons.now
    c.loop-class.reasons (omega arith) c.loop-class.invariant
