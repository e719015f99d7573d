-- How a row of a failing initialization ends.
use Rattle.std.specs.Prelude.{Option, Some, None}
use Rattle.vm_state.specs.declared.value.Name.{Name}
use Rattle.vm_state.specs.declared.ends.FaultKind.TheVariants.{Fault}
use Rattle.built_in.specs.declared.class_id.ClassId.{ClassId}
use Rattle.semantics.specs.Rows.{Outcome, Raise, Halt}

-- by an exception and its class, or by none
abbrev pub raised : Option (Name × ClassId) → Outcome
raised None = Halt Fault
raised (Some (x, class)) = Raise x class
