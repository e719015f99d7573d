use Rattle.std.proofs.Common.{◌≤◌, length, subst}
use Rattle.loading.specs.Families.{Family}
use Rattle.hierarchy.proofs.AncestorsLemmas.{none_above}
use Rattle.hierarchy.proofs.ancestors.Ancestors.ascend_from.Goals as goal

pub returns-then-class-count-clause-order : goal.returns-then-class-count-clause-order
returns-then-class-count-clause-order c =
    let past : length c.args.family.now ≤ c.args.class =
    subst (λ (f : Family). length f ≤ c.args.class) c.classes-count.ensures.value c.if-class-count.true in
    none_above c.args.family.now c.args.class c.forget.new.self.entered.items past c.forget.ensures.entered
