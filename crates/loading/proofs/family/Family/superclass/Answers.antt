use Rattle.std.proofs.Common.{◌≡◌, Some, sym, ap, ◌∙◌}
use Rattle.loading.specs.Families.{Family, superclass_in, superclass_if}
use Rattle.loading.proofs.FamiliesParentLemmas.{superclass_within, class_at}
use Rattle.loading.proofs.family.Family.superclass.Goals as goal

pub returns-clause-within : goal.returns-clause-within
returns-clause-within c =
    let found = c.in_ok-class.ensures.lookup in
    let at = class_at c.classes.result.now c.args.class c.in_ok-class.class.now found.3.0 found.1 in
    let is : superclass_in c.args.self.now c.args.class ≡ Some c.in_ok-class.class.now.superclass =
    ap (λ (family : Family). superclass_in family c.args.class) (sym c.classes.ensures.value) ∙ ap superclass_if at in
    λ d e. superclass_within c.args.self.now c.args.class d c.classes.ensures.within (is ∙ e)
