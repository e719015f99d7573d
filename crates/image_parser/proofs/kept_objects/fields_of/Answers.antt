use Rattle.std.proofs.Common.{◌<◌, ◌∙◌, ℕ, length, pos, ap, get_or, rules}
use Rattle.vm_state.specs.declared.value.Value.TheVariants.{Int}
use Rattle.vm_state.specs.declared.value.Value.{Value}
use Rattle.vm_state.specs.Statics.{with_value}
use Rattle.image_parser.proofs.HeldLemmas.{next_field}
use Rattle.image_parser.proofs.kept_objects.fields_of.Goals as goal

pub loop-field-preserved : goal.loop-field-preserved
loop-field-preserved c =
    let within : c.loop-field.field < length c.args.values.now = search rules in
    let value = get_or c.args.values.now c.loop-field.field (Int (pos 0)) in
    c.in_ok-set.ensures.ok
    ∙ ap (λ (fields : ℕ → Value). with_value fields c.loop-field.field value) c.loop-field.invariant
    ∙ next_field c.args.values.now c.loop-field.field (Int (pos 0)) within
