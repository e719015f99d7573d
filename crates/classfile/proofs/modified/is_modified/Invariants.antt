use Rattle.std.proofs.Common.{◌≡◌, length}
use Rattle.classfile.specs.reading.Modified.{is_modified}
use Rattle.classfile.proofs.modified.is_modified.Given as goal

abbrev pub invariant-loop-rest : goal.invariant-loop-rest
invariant-loop-rest l = is_modified l.rest ≡ is_modified l.bytes

abbrev pub decreases-loop-rest : goal.decreases-loop-rest
decreases-loop-rest l = length l.rest
