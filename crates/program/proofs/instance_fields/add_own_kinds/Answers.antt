use Rattle.std.proofs.Common.{◌<◌, length, ap, ◌∙◌, arith}
use Rattle.program.specs.InstanceFields.{is_instance_field, kind_of}
use Rattle.program.proofs.KeptLemmas.{kept_next}
use Rattle.program.proofs.FieldSlotsLemmas.{own_few}
use Rattle.program.proofs.instance_fields.add_own_kinds.Goals as goal

pub loop-field-preserved : goal.loop-field-preserved
loop-field-preserved c =
    let file = c.args.file.now in
    let within : c.loop-field.field-index < length c.fields-fields.result.now = omega arith in
    kept_next (kind_of file) (is_instance_field file) c.fields-fields.result.now c.loop-field.field-index
    c.field-item.result c.loop-field.kinds.items c.add_kind.new.kinds.items within c.field-item.is
    c.in_ok-add_kind.ensures
    ∙ c.loop-field.invariant

pub returns-clause-few : goal.returns-clause-few
returns-clause-few c =
    omega (arith, own_few c.args.file.now, ap length c.fields-fields.ensures.value, c.fields-fields.ensures.count)
