use Rattle.std.proofs.Common.{◌≡◌, ◌-◌}
use Rattle.classfile.specs.reading.Earlier.{Finds}
use Rattle.classfile.specs.reading.Repeat.{repeat_at}
use Rattle.classfile.specs.reading.Members.{member_at}
use Rattle.classfile.proofs.member.push_members_at.Given as goal

abbrev pub invariant-loop-index : goal.invariant-loop-index
invariant-loop-index l = record {
  reads : repeat_at (member_at l.kind l.pool l.total) (l.count - l._index) l.earlier.members.items l.rest
      ≡ repeat_at (member_at l.kind l.pool l.total) l.count l.fn.earlier.members.items l.bytes;
  finds : Finds l.pool l.earlier l.earlier.members.items;
}
