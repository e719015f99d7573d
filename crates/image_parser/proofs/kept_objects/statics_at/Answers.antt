use Rattle.std.proofs.Common.{◌∙◌, ap}
use Rattle.vm_state.specs.Statics.{field_in}
use Rattle.image_parser.proofs.ObjectReadsLemmas.{statics_held}
use Rattle.image_parser.proofs.kept_objects.statics_at.Goals as goal

pub returns : goal.returns
returns c =
    statics_held c.args.program.now c.values_at.new.program c.in_ok-values.rest.now c.in_ok-values.values.items
    (field_in c.in_ok-fields.fields) _ (c.in_ok-fields.ensures ∙ ap field_in c.as_slice.ensures.value)
    c.in_ok-values.ensures
