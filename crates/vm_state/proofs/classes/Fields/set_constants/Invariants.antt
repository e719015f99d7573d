use Rattle.std.proofs.Common.{◌≡◌, length}
use Rattle.vm_state.specs.Statics.{field_in}
use Rattle.vm_state.proofs.StaticLemmas.{constants_below}
use Rattle.vm_state.proofs.classes.Fields.set_constants.Given as goal

abbrev pub invariant-loop-field : goal.invariant-loop-field
invariant-loop-field l =
    (field_in l.self ≡ constants_below l.statics (field_in l.fn.self) l.field) × (length l.self ≡ length l.fn.self)
