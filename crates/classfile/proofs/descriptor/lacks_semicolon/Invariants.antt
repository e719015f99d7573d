use Rattle.std.proofs.Common.{◌≡◌, ◌&&◌, drop}
use Rattle.classfile.specs.reading.Descriptors.{lacks_semicolon}
use Rattle.classfile.proofs.descriptor.lacks_semicolon.Given as goal

abbrev pub invariant-loop-byte : goal.invariant-loop-byte
invariant-loop-byte l = (lacks_semicolon (drop l.byte-index l.bytes) && l.lacks) ≡ lacks_semicolon l.bytes
