use Rattle.std.proofs.Common.{◌≡◌, length}
use Rattle.explain.specs.steps.Found.{AddsAll, AreFound}
use Rattle.explain.proofs.FoundLemmas.{IsInBefore}
use Rattle.explain.proofs.nearest.add_vertices.Given as goal

abbrev pub invariant-loop-vertex : goal.invariant-loop-vertex
invariant-loop-vertex l = record {
  len : length l.pairs ≡ length l.initial.pairs;
  are : AreFound l.pairs l.found.items;
  adds : AddsAll (IsInBefore l.vertices l.vertex-index l.bearer) l.initial.pairs l.initial.found.items l.pairs
      l.found.items;
}
