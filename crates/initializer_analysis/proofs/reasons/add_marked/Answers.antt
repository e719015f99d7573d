use Rattle.std.proofs.Common.{None, slice_index_or, refl, arith}
use Rattle.use_graph.specs.Uses.{HasMark}
use Rattle.initializer_analysis.specs.declared.verdict.Reason.TheVariants as reasons
use Rattle.initializer_analysis.proofs.ReasonsLemmas.{adds_more, adds_all}
use Rattle.initializer_analysis.proofs.reasons.add_marked.Goals as goal

pub loop-class-preserved : goal.loop-class-preserved
loop-class-preserved c =
    adds_more (λ d. HasMark c.args.program.now d c.args.mark) (reasons.Marked c.args.mark) c.loop-class.class
    c.args.reasons.now c.loop-class.reasons (slice_index_or c.loop-class.reasons c.loop-class.class None)
    c.next_reason-next.result c.bears-marked.result (omega arith) refl c.loop-class.invariant c.bears-marked.ensures
    c.next_reason-next.ensures

pub returns : goal.returns
returns c =
    adds_all (λ d. HasMark c.args.program.now d c.args.mark) (reasons.Marked c.args.mark) c.loop-class.class
    c.args.reasons.now c.loop-class.reasons (omega arith) c.loop-class.invariant
