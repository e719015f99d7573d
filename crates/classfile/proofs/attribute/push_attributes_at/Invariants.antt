use Rattle.std.proofs.Common.{◌≡◌, ◌-◌}
use Rattle.classfile.specs.reading.Repeat.{repeat_at}
use Rattle.classfile.specs.reading.Members.{attribute_at}
use Rattle.classfile.proofs.attribute.push_attributes_at.Given as goal

abbrev pub invariant-loop-index : goal.invariant-loop-index
invariant-loop-index l = repeat_at (attribute_at l.pool l.owner l.total) (l.count - l._index) l.items.items l.rest
    ≡ repeat_at (attribute_at l.pool l.owner l.total) l.count l.fn.items.items l.bytes
