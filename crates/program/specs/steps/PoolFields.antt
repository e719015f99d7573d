-- The fields and methods that the constants of a run-time constant pool stand for.
use Rattle.std.specs.Prelude.{Option, Some, Ok, Err}
use Rattle.std.specs.declared.result.Result.{Result}
use Rattle.hierarchy.specs.declared.member.Field.{Field}
use Rattle.hierarchy.specs.declared.member.Field.TheVariants as fields
use Rattle.hierarchy.specs.declared.member.Method.{Method}
use Rattle.hierarchy.specs.declared.member.Unresolved.{Unresolved}
use Rattle.hierarchy.specs.declared.member.Unresolved.TheVariants.{NoReference}
use Rattle.program.specs.declared.runtime_constant.FieldTarget.{FieldTarget}
use Rattle.program.specs.declared.runtime_constant.FieldTarget.TheVariants as targets
use Rattle.program.specs.declared.runtime_constant.RuntimeConstant.{RuntimeConstant}
use Rattle.program.specs.declared.runtime_constant.RuntimeConstant.TheVariants as runtime

-- the field that instructions use so
abbrev pub field_of : FieldTarget → Field
field_of (targets.Static c number is_final k) = fields.Given c k
field_of (targets.Instance c k slot) = fields.Given c k
field_of targets.Out = fields.Out

abbrev pub found_field : Result FieldTarget Unresolved → Result Field Unresolved
found_field (Ok target) = Ok (field_of target)
found_field (Err fault) = Err fault

-- what a constant says of a field
abbrev pub pool_field : Option RuntimeConstant → Result Field Unresolved
pool_field (Some (runtime.Field kind target)) = found_field target
pool_field _ = Err NoReference

-- what a constant says of a method
abbrev pub pool_method : Option RuntimeConstant → Result Method Unresolved
pool_method (Some (runtime.Method reference)) = reference.target
pool_method (Some (runtime.InterfaceMethod reference)) = reference.target
pool_method _ = Err NoReference
