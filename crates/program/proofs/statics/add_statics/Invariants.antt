use Rattle.std.proofs.Common.{◌≡◌, map, ◌++◌, drop}
use Rattle.std.specs.List.{filter}
use Rattle.program.specs.Fields.{is_static_field, statics_of}
use Rattle.program.specs.Programs.{static_field}
use Rattle.program.proofs.statics.add_statics.Given as goal

abbrev pub invariant-loop-field : goal.invariant-loop-field
invariant-loop-field l =
    l.statics.items ++ map (static_field l.file l.pool) (filter (is_static_field l.file) (drop l.field-index l.fields))
    ≡ map (static_field l.file l.pool) (statics_of l.file)
