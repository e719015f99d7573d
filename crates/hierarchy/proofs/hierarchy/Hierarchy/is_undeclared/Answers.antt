use Rattle.std.proofs.Common.{◌≡◌, IsTrue, Some, None, Option, subst}
use Rattle.hierarchy.specs.Hierarchies.{NumberedFamily}
use Rattle.hierarchy.specs.steps.HierarchyTables.{wanted_in}
use Rattle.hierarchy.specs.steps.MemberKeys.{IsLookup}
use Rattle.hierarchy.specs.declared.member_key.MemberKey.{MemberKey}
use Rattle.hierarchy.proofs.UpClassesLemmas.{none_declared}
use Rattle.hierarchy.proofs.hierarchy.Hierarchy.is_undeclared.Goals as goal

pub returns-in-Some : goal.returns-in-Some
returns-in-Some c = λ name class is.
    let numbers = subst (λ (k : Option MemberKey). IsLookup c.args.self.now.texts name k) c.in-Some.is is in
    subst (λ (n : NumberedFamily). IsLookup n.texts name (Some c.in-Some.key) → IsTrue c.is_undeclared.result
    → wanted_in c.args.wanted n.family name class ≡ None) c.self.view_is
    (λ are none. c.is_undeclared.ensures c.self.inside.family c.self.inside.table name class
    c.self.invariant.nearest_fit are none) numbers

pub returns-in-None : goal.returns-in-None
returns-in-None c = λ name class is yes.
    let lacks = subst (λ (k : Option MemberKey). IsLookup c.args.self.now.texts name k) c.in-None.is is in
    subst (λ (n : NumberedFamily). IsLookup n.texts name None → wanted_in c.args.wanted n.family name class ≡ None)
    c.self.view_is
    (λ none. none_declared c.self.inside.family c.self.inside.table c.args.wanted name c.self.invariant.table_fits none
    class) lacks
