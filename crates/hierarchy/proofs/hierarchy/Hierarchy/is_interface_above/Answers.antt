use Rattle.std.proofs.Common.{◌∙◌, ℕ, List, sym, ap, subst}
use Rattle.std.specs.List.{Contains}
use Rattle.loading.specs.Families.{Family, IsFamily, AreParentsWithin, interfaces_in}
use Rattle.hierarchy.proofs.FirstsLemmas.{has_tells}
use Rattle.hierarchy.proofs.SubtypesLemmas.{interface_is_above, flag_is_above}
use Rattle.hierarchy.proofs.hierarchy.Hierarchy.is_interface_above.Goals as goal

pub returns-then-contains : goal.returns-then-contains
returns-then-contains c =
    let family = c.args.self.now.family in
    let fits = subst IsFamily c.family.ensures c.classes-classes.ensures.fits in
    let within = subst (λ (f : Family). AreParentsWithin f) c.family.ensures c.classes-classes.ensures.within in
    interface_is_above family c.args.class c.args.other fits within
    (subst (λ (xs : List ℕ). Contains xs c.args.other)
    (c.interfaces.ensures.value ∙ ap (λ (f : Family). interfaces_in f c.args.class) c.family-2.ensures)
    ((has_tells c.args.other c.interfaces.result.now).0 (sym c.contains.ensures.value ∙ c.if-contains.true)))

pub returns-in-Some : goal.returns-in-Some
returns-in-Some c =
    let family = c.args.self.now.family in
    let fits = subst IsFamily c.family.ensures c.classes-classes.ensures.fits in
    let within = subst (λ (f : Family). AreParentsWithin f) c.family.ensures c.classes-classes.ensures.within in
    flag_is_above family c.args.class c.args.other c.in-Some.few c.has.result fits within c.has.ensures
    (rw c.family-3.ensures at c.in-Some.ensures)
