use Rattle.std.proofs.Common.{◌≡◌, map, take}
use Rattle.vm_state.specs.steps.Elements.{brief_value}
use Rattle.vm_state.proofs.elements.few_of.Given as goal

abbrev pub invariant-loop-value : goal.invariant-loop-value
invariant-loop-value l = map brief_value l.few ≡ take l.value-index l.values
