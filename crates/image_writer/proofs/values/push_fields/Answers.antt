use Rattle.std.proofs.Common.{◌∙◌, ◌++◌, ap}
use Rattle.vm_state.specs.declared.value.Value.{Value}
use Rattle.vm_state.specs.Statics.{field_in}
use Rattle.image_format.specs.Texts.{value_text}
use Rattle.image_format.specs.Told.{told_value}
use Rattle.image_writer.proofs.TextLemmas.{number_one_more}
use Rattle.image_writer.proofs.values.push_fields.Goals as goal

pub loop-field-preserved : goal.loop-field-preserved
loop-field-preserved c =
    number_one_more value_text (λ k. told_value c.args.program.now.strings (field_in c.args.fields.now k))
    c.loop-field.field c.loop-field.out.items c.push_value.new.out.items c.args.out.now.items c.loop-field.invariant
    (c.in_ok-push_value.ensures
    ∙ ap (λ (v : Value). c.loop-field.out.items ++ value_text (told_value c.args.program.now.strings v)) c.get.ensures)
