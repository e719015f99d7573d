use Rattle.std.specs.List.{All}
use Rattle.report_page.specs.Counts.{IsReasonBar}
use Rattle.report_page.proofs.counts.reason_bars.Given as goal

abbrev pub invariant-loop-place : goal.invariant-loop-place
invariant-loop-place l = All (IsReasonBar l.verdicts) l.bars.bars.items
