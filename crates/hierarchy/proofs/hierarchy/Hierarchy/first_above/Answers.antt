use Rattle.std.proofs.Common.{ℕ, Option, None, [], ◌∷◌, sym, subst}
use Rattle.hierarchy.specs.steps.HierarchyTables.{wanted_in}
use Rattle.loading.specs.Families.{Family, parents_in}
use Rattle.hierarchy.specs.Search.{Search, here}
use Rattle.hierarchy.specs.steps.Ascents.{IsSearchOrder}
use Rattle.hierarchy.specs.declared.member.DeclaredMember.{DeclaredMember}
use Rattle.hierarchy.proofs.AlongSuperclassesLemmas.{found_nowhere}
use Rattle.hierarchy.proofs.AncestorsLemmas.{search_above}
use Rattle.hierarchy.proofs.hierarchy.Hierarchy.first_above.Goals as goal

pub returns-then-is_undeclared-clause-found : goal.returns-then-is_undeclared-clause-found
returns-then-is_undeclared-clause-found c = λ name is.
    let family = c.args.self.now.family in
    subst (λ (f : Family). Search f (wanted_in c.args.wanted family name) (c.args.class ∷ []) None) c.family.ensures
    (found_nowhere c.family.result.now (wanted_in c.args.wanted family name) c.parents_first-order.result.now
    c.parents_first-order.ensures (c.args.class ∷ []) (λ i. c.is_undeclared.ensures name i is c.if-is_undeclared.true))

pub returns-in-Some-clause-found : goal.returns-in-Some-clause-found
returns-in-Some-clause-found c = λ name is. here (sym (c.in-Some.ensures name is))

pub returns-clause-found : goal.returns-clause-found
returns-clause-found c = λ name is.
    let family = c.args.self.now.family in
    let own : ℕ → Option ℕ = wanted_in c.args.wanted family name in
    let items = c.find-2.new.self.items in
    let order : IsSearchOrder family (parents_in family c.args.class) items =
    subst (λ (f : Family). IsSearchOrder f (parents_in f c.args.class) items) c.family-2.ensures
    c.in_ok-find.ensures.order in
    subst (λ (found : Option DeclaredMember). Search family own (c.args.class ∷ []) found)
    (sym (c.first_among.ensures name is order.once))
    (search_above family own c.args.class items (sym (c.in_default.ensures name is)) order)
