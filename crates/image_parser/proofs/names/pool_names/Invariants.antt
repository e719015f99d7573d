use Rattle.image_parser.specs.reading.Named.{AllBelow, KeptNames}
use Rattle.image_parser.proofs.names.pool_names.Given as goal

abbrev pub invariant-loop-place : goal.invariant-loop-place
invariant-loop-place l = AllBelow (KeptNames l.regions l.pool) l.place
