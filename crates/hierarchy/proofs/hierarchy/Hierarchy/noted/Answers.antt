use Rattle.std.proofs.Common.{◌≡◌, [], Some, None, Option, sym, ◌∙◌, subst}
use Rattle.std.specs.List.{Contains}
use Rattle.hierarchy.specs.Hierarchies.{NumberedFamily}
use Rattle.hierarchy.specs.steps.HierarchyTables.{wanted_in}
use Rattle.hierarchy.specs.steps.MemberKeys.{IsLookup}
use Rattle.hierarchy.specs.steps.Reaches.{classes_noted}
use Rattle.hierarchy.specs.declared.member_key.MemberKey.{MemberKey}
use Rattle.hierarchy.proofs.UpClassesLemmas.{none_declared}
use Rattle.hierarchy.proofs.hierarchy.Hierarchy.noted.Goals as goal

pub returns-in-Some : goal.returns-in-Some
returns-in-Some c = λ name class k is.
    let numbers = subst (λ (o : Option MemberKey). IsLookup c.args.self.now.texts name o) c.in-Some.is is in
    subst (λ (n : NumberedFamily). IsLookup n.texts name (Some c.in-Some.key)
    → wanted_in c.args.wanted n.family name class ≡ Some k → Contains (classes_noted c.noted.result.now) class)
    c.self.view_is
    (λ are has. c.noted.ensures c.self.inside.family c.self.inside.table name class k c.self.invariant.nearest_fit are
    has) numbers

pub returns-in-None : goal.returns-in-None
returns-in-None c = λ name class k is.
    let lacks = subst (λ (o : Option MemberKey). IsLookup c.args.self.now.texts name o) c.in-None.is is in
    subst (λ (n : NumberedFamily). IsLookup n.texts name None
    → wanted_in c.args.wanted n.family name class ≡ Some k → Contains [] class)
    c.self.view_is
    (λ none has. absurd (let clash : None ≡ Some k =
    sym (none_declared c.self.inside.family c.self.inside.table c.args.wanted name c.self.invariant.table_fits none
    class) ∙ has in cc)) lacks
