use Rattle.std.proofs.Common.{◌≡◌, take}
use Rattle.options.specs.Patterns.{dotted}
use Rattle.options.proofs.sorted_names.add_ended.Given as goal

abbrev pub invariant-loop-byte : goal.invariant-loop-byte
invariant-loop-byte l = l.bytes.items ≡ dotted (take l.byte-index l.name)
