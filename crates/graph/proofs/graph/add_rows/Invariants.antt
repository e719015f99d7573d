use Rattle.std.proofs.Common.{◌≡◌, [], replicate}
use Rattle.graph.specs.Rows.{rows_of}
use Rattle.graph.proofs.graph.add_rows.Given as goal

abbrev pub invariant-loop : goal.invariant-loop
invariant-loop l = rows_of l.rows.items ≡ replicate l.counter []
