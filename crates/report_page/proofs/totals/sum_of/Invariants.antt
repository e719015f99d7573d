use Rattle.std.proofs.Common.{◌≡◌, ◌≤◌, ◌*◌, ◌^◌, take}
use Rattle.std.specs.List.{sum_by}
use Rattle.report_page.specs.Pages.{part_of}
use Rattle.report_page.proofs.totals.sum_of.Given as goal

abbrev pub invariant-loop-place : goal.invariant-loop-place
invariant-loop-place l = record {
  is : l.sum ≡ sum_by (part_of l.part) (take l.place l.dearest);
  low : l.sum ≤ l.place * 2 ^ 64;
}
