use Rattle.std.proofs.Common.{◌≡◌, length}
use Rattle.explain.specs.steps.Found.{AddsAll, AreFound, IsBefore}
use Rattle.explain.proofs.nearest.add_all.Given as goal

abbrev pub invariant-loop-source : goal.invariant-loop-source
invariant-loop-source l = record {
  len : length l.pairs ≡ length l.initial.pairs;
  are : AreFound l.pairs l.found.items;
  adds : AddsAll (IsBefore l.sources l.source-index) l.initial.pairs l.initial.found.items l.pairs l.found.items;
}
