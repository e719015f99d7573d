use Rattle.std.proofs.Common.{◌≡◌, ◌∙◌, ℕ, List, [], ◌∷◌, Some, sym, ap, subst}
use Rattle.graph.specs.steps.Adds.{Adds}
use Rattle.loading.specs.Families.{interfaces_in, superclasses_in, given_superclass}
use Rattle.hierarchy.proofs.ClassSetLemmas.{adds_both}
use Rattle.hierarchy.proofs.few_classes.FewClasses.add_parents.Goals as goal

pub returns-in-Some-Given : goal.returns-in-Some-Given
returns-in-Some-Given c = λ all.
    let family = c.args.family.now in
    let class = c.args.class in
    let super : superclasses_in family class ≡ c.in-Some-Given.above ∷ [] =
    ap given_superclass
    (sym c.superclass.ensures.value ∙ c.in-Some-Given.is ∙ ap Some c.in-Some-Given.field-0-is) in
    let first = subst (λ (row : List ℕ). Adds c.args.self.now row c.add_all.new.self) c.interfaces.ensures.value
    (c.add_all.ensures c.if-not-add_all.false) in
    let second = subst (λ (row : List ℕ). Adds c.add_all.new.self row c.add.new.self) (sym super)
    (c.add.ensures all) in
    adds_both c.args.self.now (interfaces_in family class) c.add_all.new.self (superclasses_in family class)
    c.add.new.self first second
