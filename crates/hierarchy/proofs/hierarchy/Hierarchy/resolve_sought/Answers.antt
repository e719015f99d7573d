use Rattle.std.proofs.Common.{sym, subst}
use Rattle.built_in.specs.declared.class_id.ClassId.{ClassId}
use Rattle.hierarchy.specs.MemberLookup.{method_in}
use Rattle.hierarchy.specs.Resolution.{ResolvesMethod}
use Rattle.hierarchy.specs.steps.Sought.{sought_name}
use Rattle.hierarchy.proofs.hierarchy.Hierarchy.resolve_sought.Goals as goal

pub returns-in-BuiltIn-clause-method : goal.returns-in-BuiltIn-clause-method
returns-in-BuiltIn-clause-method c =
    let family = c.args.self.now.family in
    let key = sought_name c.args.sought in
    subst (λ (x : ClassId). ResolvesMethod family key x c.built_in_method.result) (sym c.in-BuiltIn.is)
    (ResolvesMethod.built_in (c.built_in_method.ensures family (method_in family key)))
