use Rattle.std.proofs.Common.{ap, ◌∙◌}
use Rattle.vm_state.specs.SharedState.{set_state}
use Rattle.vm_state.specs.SharedTables.{SharedTables}
use Rattle.vm_state.specs.Shares.{shared_of}
use Rattle.vm_state.proofs.ShareLemmas.{shared_of-state}
use Rattle.vm_state.proofs.shared.Shared.replace_state.Goals as goal

pub returns : goal.returns
returns c p =
    let tables : SharedTables = record { classes = c.self.inside.classes; heap = c.self.inside.heap } in
    shared_of-state tables c.replace_state.new.self c.args.class c.args.state
    c.replace_state.ensures.states c.replace_state.ensures.fields p
    ∙ ap (λ (s : SharedTables). set_state (shared_of s p) c.args.class c.args.state) c.self.view_is
