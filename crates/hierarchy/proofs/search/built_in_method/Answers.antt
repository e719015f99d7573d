use Rattle.std.proofs.Common.{refl}
use Rattle.hierarchy.specs.steps.Sought.{sought_name}
use Rattle.loading.specs.declared.given.Superclass.TheVariants as super
use Rattle.hierarchy.proofs.MemberLookupLemmas.{built_in_member, no_built_in}
use Rattle.hierarchy.proofs.search.built_in_method.Goals as goal

pub returns-in_err-method : goal.returns-in_err-method
returns-in_err-method c = λ family own.
    let key = sought_name c.args.sought in
    no_built_in family own key (super.BuiltIn c.args.class) c.args.class c.from_residual.result refl
    c.in_err-method.ensures c.from_residual.ensures

pub returns : goal.returns
returns c = λ family own.
    let key = sought_name c.args.sought in
    let found = c.in_ok-method.ensures in
    built_in_member family own key (super.BuiltIn c.args.class) c.args.class c.in_ok-method.method refl found.0 found.1
