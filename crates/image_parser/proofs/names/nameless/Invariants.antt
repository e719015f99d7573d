use Rattle.image_parser.specs.reading.Named.{AllBelow, ClassNames}
use Rattle.image_parser.proofs.names.nameless.Given as goal

abbrev pub invariant-loop-class : goal.invariant-loop-class
invariant-loop-class l = AllBelow (ClassNames l.program l.regions) l.class
