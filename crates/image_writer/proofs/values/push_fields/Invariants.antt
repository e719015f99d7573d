use Rattle.std.proofs.Common.{◌≡◌, ◌++◌}
use Rattle.std.specs.List.{flat_map}
use Rattle.vm_state.specs.Statics.{field_in}
use Rattle.image_format.specs.Texts.{value_text}
use Rattle.image_format.specs.Told.{told_fields}
use Rattle.image_writer.proofs.values.push_fields.Given as goal

abbrev pub invariant-loop-field : goal.invariant-loop-field
invariant-loop-field l =
    l.out.items ≡ l.fn.out.items ++ flat_map value_text (told_fields l.program.strings (field_in l.fields) l.field)
