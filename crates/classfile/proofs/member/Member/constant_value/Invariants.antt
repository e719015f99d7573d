use Rattle.std.proofs.Common.{◌≡◌, drop}
use Rattle.classfile.specs.Members.{value_among}
use Rattle.classfile.proofs.member.Member.constant_value.Given as goal

abbrev pub invariant-loop-attribute : goal.invariant-loop-attribute
invariant-loop-attribute l = value_among (drop l.attribute-index l.attribute-items) ≡ value_among l.self.attributes
