use Rattle.std.proofs.Common.{◌≡◌, map, take}
use Rattle.vm_state.specs.declared.classes.StaticField.{StaticField}
use Rattle.vm_state.proofs.classes.Fields.zeros.Given as goal

abbrev pub invariant-loop-field : goal.invariant-loop-field
invariant-loop-field l = l.values.items ≡ map (λ (s : StaticField). s.zero) (take l.field-index l.statics)
