use Rattle.std.proofs.Common.{◌≡◌, ◌&&◌, drop}
use Rattle.classfile.specs.reading.Modified.{all_one}
use Rattle.classfile.proofs.modified.is_plain.Given as goal

abbrev pub invariant-loop-byte : goal.invariant-loop-byte
invariant-loop-byte l = (all_one (drop l.byte-index l.bytes) && l.plain) ≡ all_one l.bytes
