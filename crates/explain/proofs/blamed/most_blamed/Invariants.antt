use Rattle.std.proofs.Common.{◌≤◌, length}
use Rattle.explain.proofs.blamed.most_blamed.Given as goal

abbrev pub invariant-loop : goal.invariant-loop
invariant-loop l = length l.blamed.items ≤ l.counter
