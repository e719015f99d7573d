use Rattle.std.proofs.Common.{◌≤◌, ◌<◌, ◌≡◌, List, [], length, refl, ap, subst, ◌∙◌, rules}
use Rattle.vm_state.specs.Statics.{states_of, fields_of, field_in, with_fields}
use Rattle.vm_state.specs.declared.classes.ClassArea.{ClassArea}
use Rattle.vm_state.proofs.StaticLemmas.{states_of-kept, fields_of-set, fields_of-at, fields_of-past, fields_of-none}
use Rattle.vm_state.proofs.classes.Classes.take_fields.Goals as goal

pub returns-then-class-len-clause-taken : goal.returns-then-class-len-clause-taken
returns-then-class-len-clause-taken c =
    let past : length c.self.inside.areas.items ≤ c.args.class = search rules in
    ap field_in c.new-none.ensures
    ∙ (fields_of-past c.self.inside.areas.items c.args.class past
    ∙ ap (λ areas. fields_of areas c.args.class) c.self.view_is)

pub returns-then-class-len-clause-fields : goal.returns-then-class-len-clause-fields
returns-then-class-len-clause-fields c =
    let past : length c.self.inside.areas.items ≤ c.args.class = search rules in
    subst (λ (areas : List ClassArea). fields_of areas ≡ with_fields (fields_of areas) c.args.class (field_in []))
    c.self.view_is (fields_of-none c.self.inside.areas.items c.args.class past)

pub returns-clause-taken : goal.returns-clause-taken
returns-clause-taken c =
    let room : c.args.class < length c.self.inside.areas.items = search rules in
    ap field_in c.replace.ensures.value
    ∙ (fields_of-at c.self.inside.areas.items c.args.class _ room c.index_mut-area.ensures.value
    ∙ ap (λ areas. fields_of areas c.args.class) c.self.view_is)

pub returns-clause-fields : goal.returns-clause-fields
returns-clause-fields c =
    let room : c.args.class < length c.self.inside.areas.items = search rules in
    let kept : c.replace.new.dest ≡ [] = c.replace.ensures.after ∙ c.new-none.ensures in
    fields_of-set c.self.inside.areas.items c.args.class _ room
    ∙ (ap (λ fields. with_fields (fields_of c.self.inside.areas.items) c.args.class (field_in fields)) kept
    ∙ ap (λ fields. with_fields fields c.args.class (field_in [])) (ap fields_of c.self.view_is))

pub returns-clause-states : goal.returns-clause-states
returns-clause-states c =
    let room : c.args.class < length c.self.inside.areas.items = search rules in
    states_of-kept c.self.inside.areas.items c.args.class _ _ room c.index_mut-area.ensures.value refl
    ∙ ap states_of c.self.view_is
