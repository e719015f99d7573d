use Rattle.std.proofs.Common.{ap, ◌∙◌}
use Rattle.vm_state.specs.SharedTables.{SharedTables}
use Rattle.vm_state.specs.Shares.{shared_of, begun}
use Rattle.vm_state.proofs.ShareLemmas.{shared_of-begun}
use Rattle.vm_state.proofs.shared.Shared.begin.Goals as goal

pub returns : goal.returns
returns c p =
    let tables : SharedTables = record { classes = c.self.inside.classes; heap = c.self.inside.heap } in
    shared_of-begun tables c.begin.new.self c.args.class c.args.thread c.args.statics.now
    c.begin.ensures.states c.begin.ensures.fields p
    ∙ ap (λ (s : SharedTables). begun (shared_of s p) c.args.class c.args.thread c.args.statics.now) c.self.view_is
