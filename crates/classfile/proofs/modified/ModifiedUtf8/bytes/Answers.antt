use Rattle.std.proofs.Common.{subst}
use Rattle.classfile.specs.Units.{IsModifiedUtf8}
use Rattle.classfile.proofs.UnitsLemmas.{modified_is}
use Rattle.classfile.proofs.modified.ModifiedUtf8.bytes.Goals as goal

pub returns-clause-modified : goal.returns-clause-modified
returns-clause-modified c = subst IsModifiedUtf8 c.self.view_is (modified_is _ c.self.invariant)
