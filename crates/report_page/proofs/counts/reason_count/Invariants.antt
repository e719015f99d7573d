use Rattle.std.proofs.Common.{◌≡◌, ◌≤◌, take}
use Rattle.std.specs.List.{count_by}
use Rattle.report_page.specs.Counts.{is_left_by}
use Rattle.report_page.proofs.counts.reason_count.Given as goal

abbrev pub invariant-loop-place : goal.invariant-loop-place
invariant-loop-place l = record {
  is : l.count ≡ count_by (is_left_by l.word) (take l.place l.verdicts);
  low : l.count ≤ l.place;
}
