use Rattle.std.proofs.Common.{◌≡◌, ◌-◌, ◌+◌, vec_len}
use Rattle.region_shape.specs.Regions.{region_in}
use Rattle.region_shape.proofs.regions.Regions.keep.Given as goal

abbrev pub invariant-loop-self : goal.invariant-loop-self
invariant-loop-self l = region_in l.self-inside.regions.items ≡ region_in l.fn.self

abbrev pub decreases-loop-self : goal.decreases-loop-self
decreases-loop-self l = l.class + 1 - vec_len l.self-inside.regions
