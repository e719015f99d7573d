use Rattle.std.proofs.Common.{◌≡◌, ◌-◌}
use Rattle.classfile.specs.reading.Repeat.{repeat_at}
use Rattle.classfile.specs.reading.Code.{unread_at}
use Rattle.classfile.proofs.unread.push_unread_at.Given as goal

abbrev pub invariant-loop-index : goal.invariant-loop-index
invariant-loop-index l = repeat_at (λ earlier. unread_at l.pool l.total) (l.count - l._index) l.items.items l.rest
    ≡ repeat_at (λ earlier. unread_at l.pool l.total) l.count l.fn.items.items l.bytes
