use Rattle.std.proofs.Common.{◌≡◌, false, sym, ap, ◌∙◌, subst}
use Rattle.loading.specs.Families.{Family, IsFamily, AreParentsWithin, is_interface_in}
use Rattle.hierarchy.proofs.SubtypesLemmas.{superclass_tells}
use Rattle.hierarchy.proofs.hierarchy.Hierarchy.is_above.Goals as goal

pub returns-else-is_interface : goal.returns-else-is_interface
returns-else-is_interface c =
    let family = c.args.self.now.family in
    let fits = subst IsFamily c.family.ensures c.classes-classes.ensures.fits in
    let within = subst (λ (f : Family). AreParentsWithin f) c.family.ensures c.classes-classes.ensures.within in
    let plain : is_interface_in family c.args.other ≡ false =
    ap (λ (f : Family). is_interface_in f c.args.other) (sym c.family-2.ensures) ∙ sym c.is_interface.ensures
    ∙ c.if-is_interface.false in
    c.is_superclass.ensures ∙ superclass_tells family c.args.class c.args.other fits within plain
