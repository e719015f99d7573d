use Rattle.std.proofs.Common.{List, ◌<◌, length, ap, ◌∙◌, sym, subst}
use Rattle.vm_state.specs.Statics.{states_of, fields_of, field_in, with_state, with_fields}
use Rattle.vm_state.specs.declared.classes.ClassArea.{ClassArea}
use Rattle.vm_state.specs.declared.classes.ClassState.TheVariants.{Initialized}
use Rattle.vm_state.proofs.StaticLemmas.{states_of-set, fields_of-set}
use Rattle.vm_state.proofs.classes.Classes.initialize.Goals as goal

pub returns-clause-states : goal.returns-clause-states
returns-clause-states c =
    let room : c.args.class < length c.self.inside.areas.items =
    subst (λ (areas : List ClassArea). c.args.class < length areas) (sym c.self.view_is) c.requires in
    states_of-set c.self.inside.areas.items c.args.class _ room
    ∙ ap (λ states. with_state states c.args.class Initialized) (ap states_of c.self.view_is)

pub returns-clause-fields : goal.returns-clause-fields
returns-clause-fields c =
    let room : c.args.class < length c.self.inside.areas.items =
    subst (λ (areas : List ClassArea). c.args.class < length areas) (sym c.self.view_is) c.requires in
    fields_of-set c.self.inside.areas.items c.args.class _ room
    ∙ ap (λ fields. with_fields fields c.args.class (field_in c.args.fields)) (ap fields_of c.self.view_is)
