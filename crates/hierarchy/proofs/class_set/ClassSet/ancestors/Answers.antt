use Rattle.std.proofs.Common.{subst, List, ℕ}
use Rattle.graph.specs.steps.Adds.{Adds}
use Rattle.loading.specs.Families.{parents_in}
use Rattle.hierarchy.proofs.ClassSetLemmas.{above_parents}
use Rattle.hierarchy.proofs.class_set.ClassSet.ancestors.Goals as goal

pub returns-clause-members : goal.returns-clause-members
returns-clause-members c =
    let family = c.args.family.now in
    let first = c.add_parents.new.self in
    above_parents family c.args.class first c.add_above.new.self
    (subst (λ (old : List ℕ). Adds old (parents_in family c.args.class) first) c.none-flagged.ensures
    c.add_parents.ensures.adds)
    c.add_above.ensures
