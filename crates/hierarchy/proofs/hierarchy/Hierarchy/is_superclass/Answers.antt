use Rattle.std.proofs.Common.{◌≡◌, ◌==◌, List, ℕ, subst, rules, tests}
use Rattle.std.proofs.lemmas.Iterator.Consumers.{YieldsList-from_first}
use Rattle.std.proofs.lemmas.Iterator.Search.{any_from_yields_List}
use Rattle.loading.specs.Families.{Family, IsFamily, AreParentsWithin}
use Rattle.hierarchy.specs.Initialization.{given_superclasses}
use Rattle.hierarchy.proofs.InitializationLemmas.{superclasses_of}
use Rattle.hierarchy.proofs.UniquenessLemmas.{same_superclasses}
use Rattle.hierarchy.proofs.hierarchy.Hierarchy.is_superclass.Goals as goal

pub returns : goal.returns
returns c =
    let family = c.args.self.now.family in
    let supers : List ℕ = given_superclasses family c.args.class in
    let fits = subst IsFamily c.family.ensures c.classes-classes.ensures.fits in
    let within = subst (λ (f : Family). AreParentsWithin f) c.family.ensures c.classes-classes.ensures.within in
    let same : c.supers.result ≡ supers =
    same_superclasses c.supers.ensures (superclasses_of family c.args.class fits within) in
    any_from_yields_List (λ d. d == c.args.other) _ _ c.any.result c.any.ensures.ran
    (YieldsList-from_first (λ x. x) (λ s. s) supers same)
    (λ x b q k. search (rules, tests))
