use Rattle.std.proofs.Common.{subst, List, ℕ}
use Rattle.graph.specs.steps.Adds.{Adds}
use Rattle.loading.specs.Families.{parents_in}
use Rattle.hierarchy.proofs.ClassSetLemmas.{above_parents}
use Rattle.hierarchy.proofs.few_classes.FewClasses.ancestors.Goals as goal

pub returns : goal.returns
returns c =
    let family = c.args.family.now in
    let first = c.add_parents.new.self in
    above_parents family c.args.class first c.add_above.new.self
    (subst (λ (old : List ℕ). Adds old (parents_in family c.args.class) first) c.none-few.ensures
    (c.add_parents.ensures c.if-not-add_parents.false))
    (c.add_above.ensures c.if-not-add_above.false)
