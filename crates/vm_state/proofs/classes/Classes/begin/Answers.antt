use Rattle.std.proofs.Common.{List, ◌<◌, length, ap, ◌∙◌, sym, subst}
use Rattle.vm_state.specs.Statics.{states_of, fields_of, with_state, with_fields, with_constants}
use Rattle.vm_state.specs.declared.classes.ClassArea.{ClassArea}
use Rattle.vm_state.specs.declared.classes.ClassState.TheVariants.{InProgress}
use Rattle.vm_state.proofs.StaticLemmas.{states_of-set, fields_of-changed}
use Rattle.vm_state.proofs.classes.Classes.begin.Goals as goal

pub returns-clause-states : goal.returns-clause-states
returns-clause-states c =
    let room : c.args.class < length c.self.inside.areas.items =
    subst (λ (areas : List ClassArea). c.args.class < length areas) (sym c.self.view_is) c.requires.placed in
    states_of-set c.self.inside.areas.items c.args.class _ room
    ∙ ap (λ states. with_state states c.args.class (InProgress c.args.thread)) (ap states_of c.self.view_is)

pub returns-clause-fields : goal.returns-clause-fields
returns-clause-fields c =
    let room : c.args.class < length c.self.inside.areas.items =
    subst (λ (areas : List ClassArea). c.args.class < length areas) (sym c.self.view_is) c.requires.placed in
    fields_of-changed c.self.inside.areas.items c.args.class _ _ (with_constants c.args.statics.now) room
    c.index_mut-area.ensures.value c.set_constants.ensures
    ∙ ap (λ fields. with_fields fields c.args.class (with_constants c.args.statics.now (fields c.args.class)))
    (ap fields_of c.self.view_is)
