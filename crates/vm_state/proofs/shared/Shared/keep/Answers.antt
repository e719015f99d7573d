use Rattle.std.proofs.Common.{ap, ◌∙◌}
use Rattle.vm_state.specs.SharedTables.{SharedTables}
use Rattle.vm_state.specs.Shares.{shared_of}
use Rattle.vm_state.proofs.ShareLemmas.{shared_of-kept}
use Rattle.vm_state.proofs.shared.Shared.keep.Goals as goal

pub returns-clause-same : goal.returns-clause-same
returns-clause-same c p =
    let tables : SharedTables = record { classes = c.self.inside.classes; heap = c.self.inside.heap } in
    shared_of-kept tables c.keep.new.self c.keep.ensures.states c.keep.ensures.fields p
    ∙ ap (λ (s : SharedTables). shared_of s p) c.self.view_is
