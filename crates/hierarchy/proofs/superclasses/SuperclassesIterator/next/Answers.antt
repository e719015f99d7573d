use Rattle.std.proofs.Common.{◌≡◌, [], Some, length, sym, ap, ◌∙◌, arith}
use Rattle.loading.specs.declared.given.Superclass.TheVariants as super
use Rattle.loading.specs.Families.{superclass_in, superclass_if, superclasses_in, given_superclass}
use Rattle.loading.proofs.FamiliesParentLemmas.{class_at}
use Rattle.hierarchy.proofs.InitializationLemmas.{given-next, given-none}
use Rattle.hierarchy.proofs.superclasses.SuperclassesIterator.next.Goals as goal

pub returns-in-Given-clause-steps : goal.returns-in-Given-clause-steps
returns-in-Given-clause-steps c =
    let found = c.in_ok-class.ensures.lookup in
    let at = class_at c.self.inside.classes.now c.self.inside.class c.in_ok-class.class.now found.3.0 found.1 in
    let is : superclass_in c.self.inside.classes.now c.self.inside.class ≡ Some (super.Given c.in-Given.superclass) =
    ap superclass_if at ∙ ap Some c.in-Given.is in
    sym c.self.view_is
    ∙ given-next c.self.inside.classes.now c.self.inside.class c.in-Given.superclass c.self.invariant.0
    c.self.invariant.1 is

pub returns-in-Given-clause-goes : goal.returns-in-Given-clause-goes
returns-in-Given-clause-goes c =
    record {
      on = λ _. (tt, tt, omega (arith, ap length (returns-in-Given-clause-steps c)));
      keeps = tt;
      rests =
          λ _. tt;
    }

pub returns-in-BuiltIn-clause-steps : goal.returns-in-BuiltIn-clause-steps
returns-in-BuiltIn-clause-steps c =
    let found = c.in_ok-class.ensures.lookup in
    let at = class_at c.self.inside.classes.now c.self.inside.class c.in_ok-class.class.now found.3.0 found.1 in
    let is : superclasses_in c.self.inside.classes.now c.self.inside.class ≡ [] =
    ap given_superclass (ap superclass_if at ∙ ap Some c.in-BuiltIn.is) in
    let none = sym c.self.view_is ∙ given-none c.self.inside.classes.now c.self.inside.class is in
    (none, none)
