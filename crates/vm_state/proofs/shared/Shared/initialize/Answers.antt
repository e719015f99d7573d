use Rattle.std.proofs.Common.{ap, ◌∙◌}
use Rattle.vm_state.specs.Pools.{pool_by}
use Rattle.vm_state.specs.Shares.{shared_of, initialized}
use Rattle.vm_state.specs.SharedTables.{SharedTables}
use Rattle.vm_state.specs.Statics.{field_in, with_fields, with_state}
use Rattle.vm_state.specs.declared.classes.ClassState.TheVariants.{Initialized}
use Rattle.vm_state.proofs.ShareLemmas.{shared_of-initialized, shared_of-kept, made_none_by_class, if_refused}
use Rattle.vm_state.proofs.shared.Shared.initialize.Goals as goal

pub returns-in_err-keep-clause-err : goal.returns-in_err-keep-clause-err
returns-in_err-keep-clause-err c =
    let tables : SharedTables = record { classes = c.self.inside.classes; heap = c.self.inside.heap } in
    if_refused c.from_residual.result (λ p.
    shared_of-kept tables c.keep.new.self c.keep.ensures.states c.keep.ensures.fields p
    ∙ ap (λ (s : SharedTables). shared_of s p) c.self.view_is)

pub returns-in_err-put-clause-err : goal.returns-in_err-put-clause-err
returns-in_err-put-clause-err c =
    let tables : SharedTables = record { classes = c.self.inside.classes; heap = c.self.inside.heap } in
    let kept : SharedTables = record { classes = c.keep.new.self; heap = c.self.inside.heap } in
    if_refused c.from_residual-in_err-put.result (λ p.
    made_none_by_class kept c.put.new.self c.in_err-put.ensures.err p
    ∙ (shared_of-kept tables c.keep.new.self c.keep.ensures.states c.keep.ensures.fields p
    ∙ ap (λ (s : SharedTables). shared_of s p) c.self.view_is))

pub returns-clause-ok : goal.returns-clause-ok
returns-clause-ok c p =
    let tables : SharedTables = record { classes = c.self.inside.classes; heap = c.self.inside.heap } in
    shared_of-initialized tables c.initialize.new.self c.put.new.self c.args.class (field_in c.args.fields)
    (pool_by c.args.objects)
    (c.initialize.ensures.states ∙ ap (λ states. with_state states c.args.class Initialized) c.keep.ensures.states)
    (c.initialize.ensures.fields
    ∙ ap (λ fields. with_fields fields c.args.class (field_in c.args.fields)) c.keep.ensures.fields)
    c.in_ok-put.ensures.ok p
    ∙ ap (λ (s : SharedTables). initialized (shared_of s p) c.args.class
    (record { fields = field_in c.args.fields; pool = pool_by c.args.objects })) c.self.view_is
