use Rattle.std.proofs.Common.{◌≡◌, ℕ, false, subst, arith}
use Rattle.initializer_analysis.proofs.OthersLemmas.{HoldsBelow, holds_none, holds_more}
use Rattle.initializer_analysis.proofs.LabelsOfClassesLemmas.{TellsFirst, first_there}
use Rattle.initializer_analysis.proofs.refused_classes.labelled_classes.Goals as goal

pub loop-class-init : goal.loop-class-init
loop-class-init c =
    holds_none (TellsFirst c.args.uses.now c.args.least.now) false c.in_ok-there.there.items c.in_ok-there.ensures.items

pub loop-class-preserved : goal.loop-class-preserved
loop-class-preserved c =
    holds_more (TellsFirst c.args.uses.now c.args.least.now) false c.loop-class.class c.loop-class.there.items
    c.push.new.self.items c.is_some.result c.loop-class.invariant c.in_ok-push.ensures.items
    (rw c.class_vertex.ensures at c.is_some.ensures)

pub returns : goal.returns
returns c =
    let end : c.loop-class.class ≡ c.args.limit = omega arith in
    first_there c.args.uses.now c.args.least.now c.args.limit c.loop-class.there.items
    (subst (λ (n : ℕ). HoldsBelow (TellsFirst c.args.uses.now c.args.least.now) false n c.loop-class.there.items) end
    c.loop-class.invariant)
