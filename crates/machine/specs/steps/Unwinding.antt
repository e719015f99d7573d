-- What unwinding answers, in the words of the definition of a step.
use Rattle.std.specs.Prelude.{◌∷◌}
use Rattle.built_in.specs.declared.class_id.ClassId.{ClassId}
use Rattle.vm_state.specs.declared.value.Name.{Name}
use Rattle.vm_state.specs.declared.ends.FaultKind.TheVariants.{Fault}
use Rattle.semantics.specs.Moves.{Left, Stand, Throw, Stop}
use Rattle.machine.specs.declared.unwinding.Unwound.{Unwound}
use Rattle.machine.specs.declared.unwinding.Unwound.TheVariants.{Caught, NoRoom, Uncaught}

abbrev pub left_of : Name → ClassId → Unwound → Left
left_of x class (Caught frame callers) = Stand (frame ∷ callers)
left_of x class NoRoom = Stop Fault
left_of x class Uncaught = Throw x class
