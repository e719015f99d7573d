use Rattle.std.proofs.Common.{◌≡◌, ◌<◌, ◌-◌, ◌+◌, length, vec_len}
use Rattle.vm_state.specs.Statics.{states_of, fields_of}
use Rattle.vm_state.proofs.classes.Classes.reach.Given as goal

abbrev pub invariant-loop-alloc : goal.invariant-loop-alloc
invariant-loop-alloc l =
    (states_of l.self-inside.areas.items ≡ states_of l.fn.self)
    × (fields_of l.self-inside.areas.items ≡ fields_of l.fn.self)
    × (l.class < length l.fn.self → l.self-inside.areas.items ≡ l.fn.self)

abbrev pub decreases-loop-alloc : goal.decreases-loop-alloc
decreases-loop-alloc l = l.class + 1 - vec_len l.self-inside.areas
