use Rattle.std.proofs.Common.{refl, ap, ◌∙◌, ◌<◌, length, sym, subst}
use Rattle.vm_state.specs.Statics.{states_of, fields_of, with_state}
use Rattle.vm_state.specs.declared.classes.ClassArea.{ClassArea}
use Rattle.std.specs.Prelude.{List}
use Rattle.vm_state.proofs.StaticLemmas.{states_of-set, fields_of-kept}
use Rattle.vm_state.proofs.classes.Classes.replace_state.Goals as goal

pub returns-clause-states : goal.returns-clause-states
returns-clause-states c =
    let room : c.args.class < length c.self.inside.areas.items =
    subst (λ (areas : List ClassArea). c.args.class < length areas) (sym c.self.view_is) c.requires in
    states_of-set c.self.inside.areas.items c.args.class _ room
    ∙ ap (λ states. with_state states c.args.class c.args.state) (ap states_of c.self.view_is)

pub returns-clause-fields : goal.returns-clause-fields
returns-clause-fields c =
    let room : c.args.class < length c.self.inside.areas.items =
    subst (λ (areas : List ClassArea). c.args.class < length areas) (sym c.self.view_is) c.requires in
    fields_of-kept c.self.inside.areas.items c.args.class _ _ room c.index_mut-area.ensures.value refl
    ∙ ap fields_of c.self.view_is
