use Rattle.std.proofs.Common.{◌<◌}
use Rattle.report_page.proofs.forest.shortest.Given as goal

abbrev pub invariant-loop-column : goal.invariant-loop-column
invariant-loop-column l = l.least < 3
