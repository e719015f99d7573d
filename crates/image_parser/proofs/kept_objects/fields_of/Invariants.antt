use Rattle.std.proofs.Common.{◌≡◌, take}
use Rattle.vm_state.specs.Statics.{field_in}
use Rattle.image_parser.proofs.kept_objects.fields_of.Given as goal

abbrev pub invariant-loop-field : goal.invariant-loop-field
invariant-loop-field l = field_in l.fields ≡ field_in (take l.field l.values)
