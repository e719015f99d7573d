use Rattle.std.proofs.Common.{subst}
use Rattle.loading.specs.Families.{Family, IsFamily, AreParentsWithin}
use Rattle.hierarchy.proofs.SubtypesLemmas.{flag_is_above}
use Rattle.hierarchy.proofs.hierarchy.Hierarchy.is_flagged_above.Goals as goal

pub returns : goal.returns
returns c =
    let family = c.args.self.now.family in
    let fits = subst IsFamily c.family.ensures c.classes-classes.ensures.fits in
    let within = subst (λ (f : Family). AreParentsWithin f) c.family.ensures c.classes-classes.ensures.within in
    flag_is_above family c.args.class c.args.other c.ancestors.result c.has.result fits within c.has.ensures
    (rw c.family-2.ensures at c.ancestors.ensures.members)
