use Rattle.std.proofs.Common.{◌<◌, suc, Some, None, Option, length, sym, subst, arith}
use Rattle.hierarchy.specs.Hierarchies.{NumberedFamily}
use Rattle.hierarchy.specs.steps.HierarchyTables.{wanted_in}
use Rattle.hierarchy.specs.steps.MemberKeys.{IsLookup}
use Rattle.hierarchy.specs.steps.Reaches.{Nearest}
use Rattle.hierarchy.specs.declared.member_key.MemberKey.{MemberKey}
use Rattle.hierarchy.proofs.FamiliesChainLemmas.{height}
use Rattle.hierarchy.proofs.UpClassesLemmas.{nearest_none, none_declared}
use Rattle.hierarchy.proofs.hierarchy.Hierarchy.nearest.Goals as goal

pub returns-in_err-key : goal.returns-in_err-key
returns-in_err-key c = λ name is.
    let family = c.self.inside.family in
    let class = c.args.class in
    let own = wanted_in c.args.wanted family name in
    let lacks = subst (λ (k : Option MemberKey). IsLookup c.args.self.now.texts name k) c.in_err-key.was is in
    subst (λ (n : NumberedFamily). IsLookup n.texts name None
    → Nearest n.family (wanted_in c.args.wanted n.family name) class c.from_residual.result) c.self.view_is
    (λ none. subst (Nearest family own class) (sym c.from_residual.ensures)
    (nearest_none family own c.self.invariant.fits
    (none_declared family c.self.inside.table c.args.wanted name c.self.invariant.table_fits none)
    (suc (height family class)) class (omega arith))) lacks

pub returns : goal.returns
returns c = λ name is.
    let class = c.args.class in
    let are = subst (λ (k : Option MemberKey). IsLookup c.args.self.now.texts name k) c.in_ok-key.was is in
    subst (λ (n : NumberedFamily). IsLookup n.texts name (Some c.in_ok-key.field-0) → class < length n.family
    → Nearest n.family (wanted_in c.args.wanted n.family name) class c.nearest.result) c.self.view_is
    (λ numbers small. c.nearest.ensures.nearest c.self.inside.family c.self.inside.table name
    c.self.invariant.nearest_fit numbers small) are c.requires
