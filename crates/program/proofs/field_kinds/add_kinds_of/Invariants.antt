use Rattle.std.proofs.Common.{◌≡◌, ◌++◌, drop, reverse}
use Rattle.program.proofs.field_kinds.add_kinds_of.Given as goal

abbrev pub invariant-loop-index : goal.invariant-loop-index
invariant-loop-index l = reverse l.kinds.items ≡ drop l.index l.added ++ reverse l.fn.kinds.items
