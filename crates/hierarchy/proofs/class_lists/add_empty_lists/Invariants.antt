use Rattle.std.proofs.Common.{◌≡◌, replicate, []}
use Rattle.hierarchy.proofs.class_lists.add_empty_lists.Given as goal

abbrev pub invariant-loop : goal.invariant-loop
invariant-loop l = l.lists.items ≡ replicate l.counter []
