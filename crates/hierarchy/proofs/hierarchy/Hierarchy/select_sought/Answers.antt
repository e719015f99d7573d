use Rattle.std.proofs.Common.{sym, subst}
use Rattle.built_in.specs.declared.class_id.ClassId.{ClassId}
use Rattle.hierarchy.specs.Resolution.{SelectsByKey, instance_method_in}
use Rattle.hierarchy.specs.steps.Sought.{sought_name}
use Rattle.hierarchy.proofs.hierarchy.Hierarchy.select_sought.Goals as goal

pub returns-in-BuiltIn : goal.returns-in-BuiltIn
returns-in-BuiltIn c =
    let family = c.args.self.now.family in
    let key = sought_name c.args.sought in
    subst (λ (x : ClassId). SelectsByKey family key x c.built_in_method.result) (sym c.in-BuiltIn.is)
    (SelectsByKey.built_in (c.built_in_method.ensures family (instance_method_in family key)))
