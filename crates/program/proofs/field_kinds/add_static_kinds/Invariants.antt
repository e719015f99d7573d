use Rattle.std.proofs.Common.{◌≡◌, map, ◌++◌, drop}
use Rattle.std.specs.List.{filter}
use Rattle.program.specs.Fields.{is_static_field, statics_of}
use Rattle.program.specs.InstanceFields.{kind_of}
use Rattle.program.proofs.field_kinds.add_static_kinds.Given as goal

abbrev pub invariant-loop-field : goal.invariant-loop-field
invariant-loop-field l =
    l.kinds.items ++ map (kind_of l.file) (filter (is_static_field l.file) (drop l.field-index l.fields))
    ≡ map (kind_of l.file) (statics_of l.file)
