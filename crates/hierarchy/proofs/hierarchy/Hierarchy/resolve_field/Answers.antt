use Rattle.std.proofs.Common.{None, sym, subst}
use Rattle.built_in.specs.declared.class_id.ClassId.{ClassId}
use Rattle.hierarchy.specs.MemberNames.{named_in}
use Rattle.hierarchy.specs.Resolution.{ResolvesField}
use Rattle.hierarchy.proofs.hierarchy.Hierarchy.resolve_field.Goals as goal

pub returns-in-Array-clause-field : goal.returns-in-Array-clause-field
returns-in-Array-clause-field c =
    subst (λ (x : ClassId). ResolvesField c.args.self.now.family (named_in c.args.self.now.family c.args.member) x None)
    (sym c.in-Array.is) ResolvesField.array
