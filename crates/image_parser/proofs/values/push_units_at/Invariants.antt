use Rattle.std.proofs.Common.{◌≡◌, ◌-◌, ◌+◌, length}
use Rattle.image_parser.specs.FirstFailing.{times}
use Rattle.image_parser.specs.reading.Results.{each_at}
use Rattle.image_parser.specs.reading.Values.{unit_at}
use Rattle.image_parser.proofs.values.push_units_at.Given as goal

abbrev pub invariant-loop-index : goal.invariant-loop-index
invariant-loop-index l = record {
  reads : each_at unit_at (times (l.count - l._index)) l.units.items l.rest
      ≡ each_at unit_at (times l.count) l.fn.units.items l.bytes;
  many : length l.units.items ≡ length l.fn.units.items + l._index;
}
