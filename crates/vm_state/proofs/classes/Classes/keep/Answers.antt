use Rattle.std.proofs.Common.{◌<◌, length, refl, ap, ◌∙◌, rules}
use Rattle.vm_state.specs.Statics.{states_of, fields_of}
use Rattle.vm_state.proofs.StaticLemmas.{states_of-kept, fields_of-kept}
use Rattle.vm_state.proofs.classes.Classes.keep.Goals as goal

pub returns-clause-states : goal.returns-clause-states
returns-clause-states c =
    let room : c.args.class < length c.self.inside.areas.items = search rules in
    states_of-kept c.self.inside.areas.items c.args.class _ _ room c.index_mut-area.ensures.value refl
    ∙ (ap states_of c.self.view_is ∙ c.reach.ensures.states)

pub returns-clause-fields : goal.returns-clause-fields
returns-clause-fields c =
    let room : c.args.class < length c.self.inside.areas.items = search rules in
    fields_of-kept c.self.inside.areas.items c.args.class _ _ room c.index_mut-area.ensures.value c.keep.ensures.same
    ∙ (ap fields_of c.self.view_is ∙ c.reach.ensures.fields)
