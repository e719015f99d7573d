use Rattle.std.proofs.Common.{sym, subst, ◌∙◌}
use Rattle.loading.specs.Families.{Family}
use Rattle.hierarchy.specs.Initialization.{AreSuperclasses, given_superclasses}
use Rattle.hierarchy.proofs.InitializationLemmas.{superclasses_of}
use Rattle.hierarchy.proofs.hierarchy.Hierarchy.supers.Goals as goal

pub invariant_of-result : goal.invariant_of-result
invariant_of-result c = rw c.classes.ensures.value (c.classes.ensures.fits, c.classes.ensures.within)

pub returns : goal.returns
returns c =
    subst (λ (family : Family). AreSuperclasses c.args.self.now.family c.args.class
    (given_superclasses family c.args.class))
    (sym (c.classes.ensures.value ∙ c.family.ensures))
    (superclasses_of c.args.self.now.family c.args.class (rw c.family.ensures at c.classes.ensures.fits)
    (rw c.family.ensures at c.classes.ensures.within))
