use Rattle.std.proofs.Common.{Option, sym, subst}
use Rattle.built_in.specs.declared.class_id.ClassId.TheVariants as class_ids
use Rattle.hierarchy.specs.Resolution.{SelectsByKey}
use Rattle.hierarchy.specs.declared.member.Method.{Method}
use Rattle.hierarchy.specs.steps.Sought.{sought_name}
use Rattle.hierarchy.proofs.hierarchy.Hierarchy.select_in_class.Goals as goal

pub returns-in-Some : goal.returns-in-Some
returns-in-Some c = SelectsByKey.of_class c.in-Some.ensures

pub returns-in_err-class : goal.returns-in_err-class
returns-in_err-class c =
    let key = sought_name c.args.sought in
    subst (λ (r : Option Method). SelectsByKey c.args.self.now.family key (class_ids.Given c.args.class) r)
    (sym c.from_residual.ensures)
    (SelectsByKey.none c.in_default.ensures (c.in_err-class.ensures key c.requires))

pub returns : goal.returns
returns c =
    let key = sought_name c.args.sought in
    SelectsByKey.the_default c.in_default.ensures (c.in_ok-class.ensures key c.requires)
