use Rattle.std.proofs.Common.{◌<◌, length, ap, ◌∙◌, rules}
use Rattle.vm_state.specs.Statics.{field_in, with_value}
use Rattle.vm_state.proofs.StaticLemmas.{field_in-set}
use Rattle.vm_state.proofs.classes.Fields.set_at.Goals as goal

pub returns-clause-ok : goal.returns-clause-ok
returns-clause-ok c =
    let room : c.args.field < length c.self.inside.values.items = search rules in
    field_in-set c.self.inside.values.items c.args.field c.args.value room
    ∙ ap (λ xs. with_value xs c.args.field c.args.value) (ap field_in c.self.view_is ∙ c.in_ok-keep.ensures.same)
