use Rattle.std.proofs.Common.{◌≡◌, drop}
use Rattle.classfile.specs.reading.Descriptors.{scan}
use Rattle.classfile.proofs.descriptor.scan.Given as goal

abbrev pub invariant-loop-byte : goal.invariant-loop-byte
invariant-loop-byte l = scan l.state (drop l.byte-index l.bytes) ≡ scan l.fn.state l.bytes
