use Rattle.std.proofs.Common.{◌≡◌, ◌∙◌, ℕ, List, [], ◌∷◌, Some, sym, ap, subst, arith}
use Rattle.graph.specs.steps.Adds.{Adds}
use Rattle.loading.specs.Families.{interfaces_in, superclasses_in, given_superclass}
use Rattle.hierarchy.proofs.ClassSetLemmas.{adds_one, adds_both}
use Rattle.hierarchy.proofs.class_set.ClassSet.add_parents.Goals as goal

pub add_all-requires : goal.add_all-requires
add_all-requires c = λ k d small.
    let below = c.interfaces.ensures.within k d small in
    omega (arith, below, c.classes-count.ensures.few)

pub add-requires : goal.add-requires
add-requires c =
    let arm = c.in-Some-Given in
    let below = c.superclass.ensures.within arm.above (arm.is ∙ ap Some arm.field-0-is) in
    omega (arith, below, c.classes-count.ensures.few)

pub returns-in-Some-Given-clause-adds : goal.returns-in-Some-Given-clause-adds
returns-in-Some-Given-clause-adds c =
    let family = c.args.family.now in
    let class = c.args.class in
    let super : superclasses_in family class ≡ c.in-Some-Given.above ∷ [] =
    ap given_superclass
    (sym c.superclass.ensures.value ∙ c.in-Some-Given.is ∙ ap Some c.in-Some-Given.field-0-is) in
    let first = subst (λ (row : List ℕ). Adds c.args.self.now row c.add_all.new.self) c.interfaces.ensures.value
    c.add_all.ensures in
    let second = subst (λ (row : List ℕ). Adds c.add_all.new.self row c.add.new.self) (sym super)
    (adds_one c.add.result c.add_all.new.self c.add.new.self c.in-Some-Given.above c.add.ensures) in
    adds_both c.args.self.now (interfaces_in family class) c.add_all.new.self (superclasses_in family class)
    c.add.new.self first second
