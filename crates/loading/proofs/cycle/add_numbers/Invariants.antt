use Rattle.std.proofs.Common.{◌≡◌, take}
use Rattle.loading.proofs.cycle.add_numbers.Given as goal

abbrev pub invariant-loop-vertex : goal.invariant-loop-vertex
invariant-loop-vertex l = l.numbers.items ≡ take l.vertex-index l.vertices
