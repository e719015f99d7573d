use Rattle.std.proofs.Common.{◌≡◌, map, take}
use Rattle.vm_state.proofs.elements.narrowed.Given as goal

abbrev pub invariant-loop-value : goal.invariant-loop-value
invariant-loop-value g l = map g.E.Packed.value_of l.elements.items ≡ take l.value-index l.values
