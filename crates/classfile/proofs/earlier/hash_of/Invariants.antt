use Rattle.std.proofs.Common.{◌≡◌, drop}
use Rattle.classfile.specs.reading.Earlier.{hash_from, utf8_hash}
use Rattle.classfile.proofs.earlier.hash_of.Given as goal

abbrev pub invariant-loop-byte : goal.invariant-loop-byte
invariant-loop-byte l = hash_from l.hash (drop l.byte-index l.text) ≡ utf8_hash l.text
