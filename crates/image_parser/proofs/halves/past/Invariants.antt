use Rattle.std.proofs.Common.{◌≡◌, ◌-◌}
use Rattle.image_parser.specs.reading.Files.{past}
use Rattle.image_parser.proofs.halves.past.Given as goal

abbrev pub invariant-loop-index : goal.invariant-loop-index
invariant-loop-index l = past (l.count - l.index) l.rest ≡ past l.count l.bytes
