use Rattle.std.proofs.Common.{◌≡◌, ℕ, subst, arith}
use Rattle.initializer_analysis.specs.declared.verdict.Verdict.TheVariants.{Wave}
use Rattle.initializer_analysis.proofs.OthersLemmas.{HoldsBelow, holds_none, holds_more}
use Rattle.initializer_analysis.proofs.LabelsOfClassesLemmas.{IsVerdictBy, verdicts_are}
use Rattle.initializer_analysis.proofs.judging.verdicts_by.Goals as goal

pub loop-class-init : goal.loop-class-init
loop-class-init c =
    holds_none (IsVerdictBy c.args.uses.now c.args.reasons.now c.args.first.now c.args.heights.now) (Wave 0)
    c.in_ok-verdicts.verdicts.items c.in_ok-verdicts.ensures.items

pub loop-class-preserved : goal.loop-class-preserved
loop-class-preserved c =
    holds_more (IsVerdictBy c.args.uses.now c.args.reasons.now c.args.first.now c.args.heights.now) (Wave 0)
    c.loop-class.class c.loop-class.verdicts.items c.push.new.self.items c.verdict_by.result c.loop-class.invariant
    c.in_ok-push.ensures.items (rw c.class_vertex.ensures at c.verdict_by.ensures)

pub returns : goal.returns
returns c =
    let uses = c.args.uses.now in
    let own = c.args.reasons.now in
    let first = c.args.first.now in
    let heights = c.args.heights.now in
    let verdicts = c.loop-class.verdicts.items in
    let end : c.loop-class.class ≡ c.args.limit = omega arith in
    rw c.of.ensures (verdicts_are uses own first heights c.args.limit verdicts
    (subst (λ (n : ℕ). HoldsBelow (IsVerdictBy uses own first heights) (Wave 0) n verdicts) end c.loop-class.invariant))
