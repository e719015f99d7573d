use Rattle.std.proofs.Common.{ap, ◌∙◌}
use Rattle.vm_state.specs.SharedState.{with_static}
use Rattle.vm_state.specs.SharedTables.{SharedTables}
use Rattle.vm_state.specs.Shares.{shared_of}
use Rattle.vm_state.proofs.ShareLemmas.{shared_of-field, shared_of-kept, if_refused}
use Rattle.vm_state.proofs.shared.Shared.add_field.Goals as goal

pub returns-clause-ok : goal.returns-clause-ok
returns-clause-ok c p =
    let tables : SharedTables = record { classes = c.self.inside.classes; heap = c.self.inside.heap } in
    shared_of-field tables c.set_field.new.self c.args.class c.args.field c.args.value
    c.in_ok-set_field.ensures.states c.in_ok-set_field.ensures.fields p
    ∙ ap (λ (s : SharedTables). with_static (shared_of s p) c.args.class c.args.field c.args.value) c.self.view_is

pub returns-in_err-set_field-clause-err : goal.returns-in_err-set_field-clause-err
returns-in_err-set_field-clause-err c =
    let tables : SharedTables = record { classes = c.self.inside.classes; heap = c.self.inside.heap } in
    if_refused c.from_residual.result (λ p.
    shared_of-kept tables c.set_field.new.self c.in_err-set_field.ensures.states c.in_err-set_field.ensures.err p
    ∙ ap (λ (s : SharedTables). shared_of s p) c.self.view_is)
