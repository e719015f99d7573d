use Rattle.std.proofs.Common.{◌≡◌, ◌++◌, drop, map, reverse}
use Rattle.program.specs.Programs.{zero_of}
use Rattle.program.proofs.objects.add_zeros_of.Given as goal

abbrev pub invariant-loop-index : goal.invariant-loop-index
invariant-loop-index l = reverse l.slots.items ≡ map zero_of (drop l.index l.kinds) ++ reverse l.fn.slots.items
