use Rattle.std.proofs.Common.{◌<◌, length, refl, ap, ◌∙◌, rules}
use Rattle.vm_state.specs.Statics.{states_of, fields_of, with_fields, with_value}
use Rattle.vm_state.proofs.StaticLemmas.{states_of-kept, fields_of-changed}
use Rattle.vm_state.proofs.classes.Classes.replace_field.Goals as goal

pub returns-clause-fields : goal.returns-clause-fields
returns-clause-fields c =
    let room : c.args.class < length c.self.inside.areas.items = search rules in
    fields_of-changed c.self.inside.areas.items c.args.class _ _ (λ fields. with_value fields c.args.field c.args.value)
    room
    c.index_mut-area.ensures.value c.in_ok-replace.ensures.ok
    ∙ ap (λ fields. with_fields fields c.args.class (with_value (fields c.args.class) c.args.field c.args.value))
    (ap fields_of c.self.view_is)

pub returns-clause-states : goal.returns-clause-states
returns-clause-states c =
    let room : c.args.class < length c.self.inside.areas.items = search rules in
    states_of-kept c.self.inside.areas.items c.args.class _ _ room c.index_mut-area.ensures.value refl
    ∙ (ap states_of c.self.view_is)
