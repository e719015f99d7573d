-- What is seen of a thread that ended.
use Rattle.vm_state.specs.declared.ends.End.{End}
use Rattle.vm_state.specs.declared.ends.End.TheVariants as ends
use Rattle.vm_state.specs.declared.ends.Ending.{Ending}
use Rattle.vm_state.specs.declared.ends.Ending.TheVariants as endings

abbrev pub ending_of : End → Ending
ending_of ends.Returned = endings.Returned
ending_of (ends.Uncaught class) = endings.Uncaught class
ending_of (ends.Faulted kind) = endings.Faulted kind
