-- Fields as instructions use them.
use Rattle.std.specs.Prelude.{ℕ, Option, Some, None, Ok, Err, slice_get, if◌then◌else◌}
use Rattle.std.specs.declared.result.Result.{Result}
use Rattle.classfile.specs.ClassFile.{ClassFile}
use Rattle.program.specs.declared.runtime_constant.FieldTarget.{FieldTarget}
use Rattle.program.specs.declared.runtime_constant.FieldTarget.TheVariants as targets
use Rattle.hierarchy.specs.declared.member.Field.{Field}
use Rattle.hierarchy.specs.declared.member.Field.TheVariants as fields
use Rattle.hierarchy.specs.declared.member.Unresolved.{Unresolved}
use Rattle.loading.specs.Families.{Family, file_in}
use Rattle.program.specs.Fields.{static_of, final_of, static_number_of}
use Rattle.program.specs.InstanceFields.{slot_of}

-- a field of a class by its place, and its slot in objects
abbrev pub target_in : Option ClassFile → ℕ → ℕ → ℕ → FieldTarget
target_in None c k slot = targets.Instance c k slot
target_in (Some f) c k slot = if static_of (slice_get f.fields k) then targets.Static c (static_number_of f k)
    (final_of (slice_get f.fields k)) k
    else targets.Instance c k slot

-- a field as instructions use it
abbrev pub target_of : Family → Field → FieldTarget
target_of family (fields.Given c k) = target_in (file_in family c) c k (slot_of family c k)
target_of family fields.Out = targets.Out

abbrev pub targeted : Family → Result Field Unresolved → Result FieldTarget Unresolved
targeted family (Ok m) = Ok (target_of family m)
targeted family (Err e) = Err e
