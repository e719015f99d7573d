use Rattle.std.proofs.Common.{◌-◌, []}
use Rattle.image_parser.specs.FirstFailing.{times}
use Rattle.image_parser.specs.reading.Held.{HoldsValue}
use Rattle.image_parser.specs.reading.Results.{each_at}
use Rattle.image_parser.specs.reading.Values.{element_at}
use Rattle.image_parser.proofs.ReadsLemmas.{SoFar}
use Rattle.image_parser.proofs.values.push_elements_at.Given as goal

abbrev pub invariant-loop-index : goal.invariant-loop-index
invariant-loop-index l =
    SoFar HoldsValue l.fn.program l.program l.slots
    (λ told. each_at (λ (one : Unit {0}). element_at l.kind) (times (l.count - l._index)) told l.rest)
    (each_at (λ (one : Unit {0}). element_at l.kind) (times l.count) [] l.bytes)
