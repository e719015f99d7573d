use Rattle.std.proofs.Common.{[], ap, ◌∙◌}
use Rattle.vm_state.specs.Objects.{none_held}
use Rattle.vm_state.specs.Pools.{pool_by}
use Rattle.vm_state.specs.SharedState.{set_region}
use Rattle.vm_state.specs.SharedTables.{SharedTables}
use Rattle.vm_state.specs.Shares.{shared_of, empty_region}
use Rattle.vm_state.specs.Statics.{field_in}
use Rattle.vm_state.proofs.ShareLemmas.{shared_of-parts, shared_of-region}
use Rattle.vm_state.proofs.shared.Shared.take.Goals as goal

pub returns-clause-taken : goal.returns-clause-taken
returns-clause-taken c p =
    let tables : SharedTables = record { classes = c.self.inside.classes; heap = c.self.inside.heap } in
    shared_of-parts tables c.args.class (field_in c.take_fields-fields.result) (pool_by c.take-objects.result)
    c.take_fields-fields.ensures.taken c.take-objects.ensures.taken p
    ∙ ap (λ (s : SharedTables). (shared_of s p).regions c.args.class) c.self.view_is

pub returns-clause-left : goal.returns-clause-left
returns-clause-left c p =
    let tables : SharedTables = record { classes = c.self.inside.classes; heap = c.self.inside.heap } in
    shared_of-region tables c.take_fields-fields.new.self c.take-objects.new.self c.args.class (field_in [])
    (pool_by none_held) c.take_fields-fields.ensures.states c.take_fields-fields.ensures.fields
    c.take-objects.ensures.left p
    ∙ ap (λ (s : SharedTables). set_region (shared_of s p) c.args.class empty_region) c.self.view_is
