use Rattle.std.proofs.Common.{ap, ◌∙◌}
use Rattle.vm_state.specs.SharedState.{with_static}
use Rattle.vm_state.specs.SharedTables.{SharedTables}
use Rattle.vm_state.specs.Shares.{shared_of}
use Rattle.vm_state.proofs.ShareLemmas.{shared_of-field}
use Rattle.vm_state.proofs.shared.Shared.replace_field.Goals as goal

pub returns-clause-ok : goal.returns-clause-ok
returns-clause-ok c p =
    let tables : SharedTables = record { classes = c.self.inside.classes; heap = c.self.inside.heap } in
    shared_of-field tables c.replace_field.new.self c.args.class c.args.field c.args.value
    c.in_ok-replace_field.ensures.states c.in_ok-replace_field.ensures.fields p
    ∙ ap (λ (s : SharedTables). with_static (shared_of s p) c.args.class c.args.field c.args.value) c.self.view_is
