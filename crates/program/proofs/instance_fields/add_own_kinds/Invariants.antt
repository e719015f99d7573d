use Rattle.std.proofs.Common.{◌≡◌, ◌++◌, drop, map}
use Rattle.std.specs.List.{filter}
use Rattle.program.specs.InstanceFields.{is_instance_field, kind_of, own_kinds}
use Rattle.program.proofs.instance_fields.add_own_kinds.Given as goal

abbrev pub invariant-loop-field : goal.invariant-loop-field
invariant-loop-field l =
    l.kinds.items ++ map (kind_of l.file) (filter (is_instance_field l.file) (drop l.field-index l.fields))
    ≡ l.fn.kinds.items ++ own_kinds l.file
