use Rattle.std.proofs.Common.{◌≡◌, drop}
use Rattle.classfile.specs.Members.{code_among}
use Rattle.classfile.proofs.member.Member.code.Given as goal

abbrev pub invariant-loop-attribute : goal.invariant-loop-attribute
invariant-loop-attribute l = code_among (drop l.attribute-index l.attribute-items) ≡ code_among l.self.attributes
