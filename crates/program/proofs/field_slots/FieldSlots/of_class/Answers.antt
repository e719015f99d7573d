use Rattle.std.proofs.Common.{◌≡◌, ◌+◌, true, length, ap, arith}
use Rattle.std.proofs.lemmas.List.{length_push}
use Rattle.program.specs.InstanceFields.{is_instance_field}
use Rattle.program.proofs.CountedFieldsLemmas.{counts, counts_not, is_tested, numbers_next}
use Rattle.program.proofs.FieldSlotsLemmas.{field_slots_all, passed, room_for}
use Rattle.program.proofs.field_slots.FieldSlots.of_class.Goals as goal
use Rattle.program.proofs.field_slots.FieldSlots.of_class.Goals.{then-is_instance_field, else-is_instance_field}

pub overflow_add-before : goal.overflow_add-before
overflow_add-before c =
    let f = c.args.file.now in
    let i = c.loop-field.field-index in
    let field = c.field-item.result in
    let has = is_tested (is_instance_field f) f.fields c.fields-fields.result.now i field true
    c.fields-fields.ensures.value (omega arith) c.field-item.is c.if-is_instance_field.ensures in
    omega (
      arith,
      c.requires,
      c.loop-field.invariant.before,
      room_for f i field (omega (arith, ap length c.fields-fields.ensures.value)) has,
    )

pub loop-field-preserved : goal.loop-field-preserved
loop-field-preserved c =
    let f = c.args.file.now in
    let i = c.loop-field.field-index in
    let ms = c.fields-fields.result.now in
    let field = c.field-item.result in
    let passes = c.is_instance_field.result in
    let count : length c.push.new.self.items ≡ i + 1 =
    omega (arith, ap length c.in_ok-push.ensures.items, length_push c.loop-field.slots.items c.loop-field.before) in
    let slots = numbers_next (passed f c.args.first) c.loop-field.slots.items c.push.new.self.items i
    c.loop-field.before c.loop-field.invariant.count c.loop-field.invariant.before
    c.loop-field.invariant.slots c.in_ok-push.ensures.items in
    elim c.if-is_instance_field.branch [
      | then-is_instance_field w ↦ (let next : passed f c.args.first (i + 1) ≡ passed f c.args.first i + 1 =
          omega (
            arith,
            counts (is_instance_field f) f.fields ms i field passes c.fields-fields.ensures.value (omega arith)
                c.field-item.is c.is_instance_field.ensures w.if-is_instance_field.true,
          ) in
          record { before = omega arith; count = count; slots = slots })
      | else-is_instance_field w ↦ (let next : passed f c.args.first (i + 1) ≡ passed f c.args.first i =
          omega (
            arith,
            counts_not (is_instance_field f) f.fields ms i field passes c.fields-fields.ensures.value (omega arith)
                c.field-item.is c.is_instance_field.ensures w.if-is_instance_field.false,
          ) in
          record { before = omega arith; count = count; slots = slots })
    ]

pub returns : goal.returns
returns c =
    let f = c.args.file.now in
    let whole : length f.fields ≡ c.loop-field.field-index = omega (arith, ap length c.fields-fields.ensures.value) in
    field_slots_all f c.args.first c.loop-field.slots.items (omega (arith, c.loop-field.invariant.count, whole))
    (λ k small. c.loop-field.invariant.slots k (omega (arith, small, whole)))
