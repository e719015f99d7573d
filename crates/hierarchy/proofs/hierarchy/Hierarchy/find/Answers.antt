use Rattle.std.proofs.Common.{◌≡◌, Some, None, Option, sym, ◌∙◌, subst}
use Rattle.hierarchy.specs.Hierarchies.{NumberedFamily}
use Rattle.hierarchy.specs.steps.HierarchyTables.{wanted_in}
use Rattle.hierarchy.specs.steps.MemberKeys.{IsLookup}
use Rattle.hierarchy.specs.declared.member_key.MemberKey.{MemberKey}
use Rattle.hierarchy.proofs.UpClassesLemmas.{none_declared}
use Rattle.hierarchy.proofs.hierarchy.Hierarchy.find.Goals as goal

pub returns-in_err-key : goal.returns-in_err-key
returns-in_err-key c = λ name is.
    let lacks = subst (λ (k : Option MemberKey). IsLookup c.args.self.now.texts name k) c.in_err-key.was is in
    c.from_residual.ensures
    ∙ sym (subst (λ (n : NumberedFamily). IsLookup n.texts name None
    → wanted_in c.args.wanted n.family name c.args.class ≡ None) c.self.view_is
    (λ none. none_declared c.self.inside.family c.self.inside.table c.args.wanted name c.self.invariant.table_fits none
    c.args.class) lacks)

pub returns : goal.returns
returns c = λ name is.
    let are = subst (λ (k : Option MemberKey). IsLookup c.args.self.now.texts name k) c.in_ok-key.was is in
    subst (λ (n : NumberedFamily). IsLookup n.texts name (Some c.in_ok-key.field-0)
    → c.own.result ≡ wanted_in c.args.wanted n.family name c.args.class) c.self.view_is
    (λ numbers. c.own.ensures c.self.inside.family c.self.inside.table name c.self.invariant.nearest_fit numbers) are
