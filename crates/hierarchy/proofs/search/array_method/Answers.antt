use Rattle.std.proofs.Common.{Option, sym, subst}
use Rattle.built_in.specs.declared.class_id.ClassId.TheVariants as class_ids
use Rattle.hierarchy.specs.Resolution.{ResolvesMethod, SelectsByKey}
use Rattle.hierarchy.specs.steps.Sought.{sought_name}
use Rattle.hierarchy.specs.declared.member.Method.{Method}
use Rattle.hierarchy.proofs.search.array_method.Goals as goal

pub returns-in_err-method-clause-resolved : goal.returns-in_err-method-clause-resolved
returns-in_err-method-clause-resolved c = λ family a.
    let key = sought_name c.args.sought in
    subst (λ (r : Option Method). ResolvesMethod family key (class_ids.Array a) r) (sym c.from_residual.ensures)
    (ResolvesMethod.no_array c.in_err-method.ensures)

pub returns-in_err-method-clause-selected : goal.returns-in_err-method-clause-selected
returns-in_err-method-clause-selected c = λ family a.
    let key = sought_name c.args.sought in
    subst (λ (r : Option Method). SelectsByKey family key (class_ids.Array a) r) (sym c.from_residual.ensures)
    (SelectsByKey.no_array c.in_err-method.ensures)

pub returns-clause-resolved : goal.returns-clause-resolved
returns-clause-resolved c = λ family a. ResolvesMethod.array c.in_ok-method.ensures.0 c.in_ok-method.ensures.1

pub returns-clause-selected : goal.returns-clause-selected
returns-clause-selected c = λ family a. SelectsByKey.array c.in_ok-method.ensures.0 c.in_ok-method.ensures.1
