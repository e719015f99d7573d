use Rattle.std.proofs.Common.{◌≡◌, ◌≤◌, take}
use Rattle.cli.specs.Totals.{left_by}
use Rattle.cli.proofs.totals.left_by.Given as goal

abbrev pub invariant-loop-place : goal.invariant-loop-place
invariant-loop-place l = record {
  is : l.count ≡ left_by (take l.place l.verdicts) l.word;
  low : l.count ≤ l.place;
}
