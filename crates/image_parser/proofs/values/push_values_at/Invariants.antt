use Rattle.std.proofs.Common.{[], drop}
use Rattle.image_parser.specs.reading.Held.{HoldsValue}
use Rattle.image_parser.specs.reading.Results.{each_at}
use Rattle.image_parser.specs.reading.Values.{value_at}
use Rattle.image_parser.proofs.ReadsLemmas.{SoFar}
use Rattle.image_parser.proofs.values.push_values_at.Given as goal

abbrev pub invariant-loop-kind : goal.invariant-loop-kind
invariant-loop-kind l =
    SoFar HoldsValue l.fn.program l.program l.values.items
    (λ told. each_at value_at (drop l.kind-index l.kinds) told l.rest) (each_at value_at l.kinds [] l.bytes)
