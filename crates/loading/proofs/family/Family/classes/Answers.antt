use Rattle.std.proofs.Common.{subst}
use Rattle.loading.specs.Families.{Family, AreParentsWithin}
use Rattle.loading.proofs.FamiliesParentLemmas.{parents_within}
use Rattle.loading.proofs.family.Family.classes.Goals as goal

pub returns-clause-within : goal.returns-clause-within
returns-clause-within c =
    subst (λ (family : Family). AreParentsWithin family) c.self.view_is
    (parents_within c.self.inside.classes.items c.self.inside.order c.self.invariant.1)
