use Rattle.std.proofs.Common.{◌≡◌, replicate, None}
use Rattle.hierarchy.proofs.short_orders.no_lists.Given as goal

abbrev pub invariant-loop : goal.invariant-loop
invariant-loop l = l.rows.items ≡ replicate l.counter None
