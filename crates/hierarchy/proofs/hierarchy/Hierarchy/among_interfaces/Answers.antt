use Rattle.std.proofs.Common.{◌≡◌, ℕ, Option, None, [], ◌∷◌, subst}
use Rattle.loading.specs.Families.{Family, parents_in}
use Rattle.hierarchy.specs.steps.Ascents.{IsSearchOrder}
use Rattle.hierarchy.proofs.AncestorsLemmas.{ancestors_are}
use Rattle.hierarchy.proofs.AlongSuperclassesLemmas.{found_nowhere}
use Rattle.hierarchy.proofs.DefaultsLemmas.{no_method}
use Rattle.hierarchy.specs.MemberLookup.{interface_method_in}
use Rattle.hierarchy.specs.Resolution.{AmongInterfaces}
use Rattle.hierarchy.specs.Search.{Search}
use Rattle.hierarchy.specs.declared.member.DeclaredMember.{DeclaredMember}
use Rattle.hierarchy.proofs.hierarchy.Hierarchy.among_interfaces.Goals as goal

pub returns-in-Some-clause-method : goal.returns-in-Some-clause-method
returns-in-Some-clause-method c = λ name is. AmongInterfaces.the_default (c.in-Some.ensures name is)

pub returns-in-Some-first-clause-method : goal.returns-in-Some-first-clause-method
returns-in-Some-first-clause-method c = λ name is.
    let family = c.args.self.now.family in
    AmongInterfaces.any (c.in_default.ensures name is)
    (subst (λ (r : Option DeclaredMember). Search family (interface_method_in family name) (c.args.class ∷ []) r)
    c.in-Some-first.is (c.in_ok-first.ensures.found name is))

pub returns-in-None-clause-method : goal.returns-in-None-clause-method
returns-in-None-clause-method c = λ name is.
    let family = c.args.self.now.family in
    AmongInterfaces.none (c.in_default.ensures name is)
    (subst (λ (r : Option DeclaredMember). Search family (interface_method_in family name) (c.args.class ∷ []) r)
    c.in-None.is (c.in_ok-first.ensures.found name is))

pub returns-then-is_undeclared-clause-method : goal.returns-then-is_undeclared-clause-method
returns-then-is_undeclared-clause-method c = λ name is.
    let family = c.args.self.now.family in
    let none : (i : ℕ) → interface_method_in family name i ≡ None =
    λ i. c.is_undeclared.ensures name i is c.if-is_undeclared.true in
    AmongInterfaces.none (no_method family name c.args.class none)
    (subst (λ (f : Family). Search f (interface_method_in family name) (c.args.class ∷ []) None) c.family.ensures
    (found_nowhere c.family.result.now (interface_method_in family name) c.parents_first-order.result.now
    c.parents_first-order.ensures (c.args.class ∷ []) none))

pub default_among-requires : goal.default_among-requires
default_among-requires c =
    let items = c.find.new.self.items in
    ancestors_are c.args.self.now.family c.args.class items
    (subst (λ (f : Family). IsSearchOrder f (parents_in f c.args.class) items) c.family-2.ensures
    c.in_ok-find.ensures.order)
