use Rattle.std.proofs.Common.{◌≡◌, ℕ, ◌+◌, subst, arith}
use Rattle.initializer_analysis.specs.steps.Reasons.{AreFirstBelow}
use Rattle.initializer_analysis.proofs.ReasonsLemmas.{ranked, marks_more}
use Rattle.initializer_analysis.proofs.reasons.add_marks.Goals as goal

pub loop-mark-init : goal.loop-mark-init
loop-mark-init c = λ forced first. first

pub loop-mark-preserved : goal.loop-mark-preserved
loop-mark-preserved c = λ forced first.
    marks_more c.args.program.now forced c.loop-mark.mark-index _ c.loop-mark.reasons c.add_mark.new.reasons
    (ranked c.loop-mark.mark-index _ (omega arith)) c.in_ok-add_mark.ensures (c.loop-mark.invariant forced first)

pub returns : goal.returns
returns c = λ forced first.
    let end : c.loop-mark.mark-index + 2 ≡ 9 = omega arith in
    subst (λ (n : ℕ). AreFirstBelow c.args.program.now forced n c.loop-mark.reasons) end
    (c.loop-mark.invariant forced first)
