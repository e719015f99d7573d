use Rattle.std.proofs.Common.{subst}
use Rattle.loading.specs.Families.{Family, IsFamily, AreParentsWithin}
use Rattle.hierarchy.proofs.SelectionLemmas.{selected_value}
use Rattle.hierarchy.proofs.hierarchy.Hierarchy.select.Goals as goal

pub returns-clause-value : goal.returns-clause-value
returns-clause-value c =
    let fits = subst IsFamily c.family.ensures c.classes-classes.ensures.fits in
    let within = subst (λ (f : Family). AreParentsWithin f) c.family.ensures c.classes-classes.ensures.within in
    selected_value c.args.self.now.family fits within c.select_resolved.ensures
