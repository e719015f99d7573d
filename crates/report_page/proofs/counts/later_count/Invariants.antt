use Rattle.std.proofs.Common.{◌≡◌, ◌≤◌, take}
use Rattle.std.specs.List.{count_by}
use Rattle.report_page.specs.Counts.{is_from_wave}
use Rattle.report_page.proofs.counts.later_count.Given as goal

abbrev pub invariant-loop-place : goal.invariant-loop-place
invariant-loop-place l = record {
  is : l.count ≡ count_by (is_from_wave l.wave) (take l.place l.verdicts);
  low : l.count ≤ l.place;
}
