use Rattle.std.proofs.Common.{◌≡◌, ℕ, subst, arith}
use Rattle.initializer_analysis.specs.steps.Judging.{Labelled}
use Rattle.initializer_analysis.proofs.LabelsOfClassesLemmas.{labelled_none, labelled_more}
use Rattle.initializer_analysis.proofs.refused_classes.add_labels.Goals as goal

pub loop-class-init : goal.loop-class-init
loop-class-init c = labelled_none c.args.reasons.now c.args.own.now.items

pub loop-class-preserved : goal.loop-class-preserved
loop-class-preserved c =
    labelled_more c.args.reasons.now c.loop-class.class c.args.own.now.items c.loop-class.own.items
    c.push.new.self.items c.loop-class.invariant
    (rw c.label_by.ensures at c.in_ok-push.ensures.items)

pub returns : goal.returns
returns c =
    let end : c.loop-class.class ≡ c.args.limit = omega arith in
    subst (λ (n : ℕ). Labelled c.args.reasons.now n c.args.own.now.items c.loop-class.own.items) end
    c.loop-class.invariant
