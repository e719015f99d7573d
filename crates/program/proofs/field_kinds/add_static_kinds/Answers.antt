use Rattle.std.proofs.Common.{◌<◌, length, ◌∙◌, arith}
use Rattle.program.specs.Fields.{is_static_field}
use Rattle.program.specs.InstanceFields.{kind_of}
use Rattle.program.proofs.KeptLemmas.{kept_next}
use Rattle.program.proofs.field_kinds.add_static_kinds.Goals as goal

pub loop-field-preserved : goal.loop-field-preserved
loop-field-preserved c =
    let file = c.args.file.now in
    let within : c.loop-field.field-index < length c.fields-fields.result.now = omega arith in
    kept_next (kind_of file) (is_static_field file) c.fields-fields.result.now
    c.loop-field.field-index
    c.field-item.result
    c.loop-field.kinds.items c.add_static_kind.new.kinds.items within c.field-item.is c.in_ok-add_static_kind.ensures
    ∙ c.loop-field.invariant
