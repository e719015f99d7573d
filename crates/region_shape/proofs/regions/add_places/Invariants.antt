use Rattle.std.proofs.Common.{◌≡◌, None, replicate}
use Rattle.region_shape.proofs.regions.add_places.Given as goal

abbrev pub invariant-loop : goal.invariant-loop
invariant-loop l = l.regions.items ≡ replicate l.counter None
