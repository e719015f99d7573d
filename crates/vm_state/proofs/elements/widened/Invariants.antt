use Rattle.std.proofs.Common.{◌≡◌, map, take}
use Rattle.vm_state.proofs.elements.widened.Given as goal

abbrev pub invariant-loop-element : goal.invariant-loop-element
invariant-loop-element g l = l.values.items ≡ map g.E.Packed.value_of (take l.element-index l.elements)
