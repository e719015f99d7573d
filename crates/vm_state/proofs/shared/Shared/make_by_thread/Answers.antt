use Rattle.std.proofs.Common.{ap, ◌∙◌}
use Rattle.vm_state.specs.declared.value.Maker.TheVariants.{Thread}
use Rattle.vm_state.specs.SharedState.{Pool, made, with_new}
use Rattle.vm_state.specs.SharedTables.{SharedTables}
use Rattle.vm_state.specs.Shares.{shared_of}
use Rattle.vm_state.proofs.ShareLemmas.{changed_by_thread}
use Rattle.vm_state.proofs.shared.Shared.make_by_thread.Goals as goal

pub returns-clause-ok : goal.returns-clause-ok
returns-clause-ok c p =
    let tables : SharedTables = record { classes = c.self.inside.classes; heap = c.self.inside.heap } in
    changed_by_thread tables c.make.new.self c.args.maker
    (λ (pool : Pool). with_new pool c.args.class c.args.slots) c.in_ok-number.ensures.ok p
    ∙ ap (λ (s : SharedTables). made (shared_of s p) (Thread c.args.maker) c.args.class c.args.slots) c.self.view_is
