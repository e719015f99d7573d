use Rattle.std.proofs.Common.{◌≡◌, ◌+◌, length, ap, arith}
use Rattle.std.proofs.lemmas.List.{length_push}
use Rattle.program.specs.Fields.{static_number_of, is_static_field}
use Rattle.program.proofs.CountedFieldsLemmas.{counts, counts_not, numbers_next}
use Rattle.program.proofs.static_numbers.StaticNumbers.of_class.Goals as goal
use Rattle.program.proofs.static_numbers.StaticNumbers.of_class.Goals.{then-is_static_field, else-is_static_field}

pub loop-field-preserved : goal.loop-field-preserved
loop-field-preserved c =
    let f = c.args.file.now in
    let i = c.loop-field.field-index in
    let field = c.field-item.result in
    let ms = c.fields-fields.result.now in
    let passes = c.is_static_field.result in
    let count : length c.push.new.self.items ≡ i + 1 =
    omega (arith, ap length c.in_ok-push.ensures.items, length_push c.loop-field.numbers.items c.loop-field.before) in
    let numbers = numbers_next (static_number_of f) c.loop-field.numbers.items c.push.new.self.items i
    c.loop-field.before c.loop-field.invariant.count c.loop-field.invariant.before
    c.loop-field.invariant.numbers c.in_ok-push.ensures.items in
    elim c.if-is_static_field.branch [
      | then-is_static_field w ↦ (let next : static_number_of f (i + 1) ≡ static_number_of f i + 1 =
          counts (is_static_field f) f.fields ms i field passes c.fields-fields.ensures.value (omega arith)
          c.field-item.is c.is_static_field.ensures w.if-is_static_field.true in
          record { few = omega arith; before = omega arith; count = count; numbers = numbers })
      | else-is_static_field w ↦ (let next : static_number_of f (i + 1) ≡ static_number_of f i =
          counts_not (is_static_field f) f.fields ms i field passes c.fields-fields.ensures.value (omega arith)
          c.field-item.is c.is_static_field.ensures w.if-is_static_field.false in
          record { few = omega arith; before = omega arith; count = count; numbers = numbers })
    ]
