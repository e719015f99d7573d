use Rattle.std.proofs.Common.{◌-◌, []}
use Rattle.vm_state.specs.Objects.{AscendsFrom}
use Rattle.image_parser.specs.RegionFaults.{above}
use Rattle.image_parser.specs.reading.Held.{HoldsKept}
use Rattle.image_parser.specs.reading.Results.{chain_at}
use Rattle.image_parser.specs.reading.Objects.{kept_at}
use Rattle.image_parser.proofs.ChainLemmas.{IsLeast}
use Rattle.image_parser.proofs.ReadsLemmas.{SoFar}
use Rattle.image_parser.proofs.kept_objects.push_objects_at.Given as goal

abbrev pub invariant-loop-index : goal.invariant-loop-index
invariant-loop-index l = record {
  reads : SoFar HoldsKept l.fn.program l.program l.objects.items
      (λ told. chain_at (kept_at l.version l.fn.program.family l.count) above (l.many - l._index) l.least told l.rest)
      (chain_at (kept_at l.version l.fn.program.family l.count) above l.many 0 [] l.bytes);
  least : IsLeast l.version l.count l._index l.least;
  ascends : AscendsFrom 0 l.objects.items l.least;
}
