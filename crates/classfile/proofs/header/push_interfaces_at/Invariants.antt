use Rattle.std.proofs.Common.{◌≡◌, ◌-◌}
use Rattle.classfile.specs.reading.Repeat.{repeat_at}
use Rattle.classfile.specs.reading.Class.{interface_at}
use Rattle.classfile.proofs.header.push_interfaces_at.Given as goal

abbrev pub invariant-loop-index : goal.invariant-loop-index
invariant-loop-index l = repeat_at (λ earlier. interface_at l.pool l.total) (l.count - l._index) l.items.items l.rest
    ≡ repeat_at (λ earlier. interface_at l.pool l.total) l.count l.fn.items.items l.bytes
