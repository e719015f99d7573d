use Rattle.std.proofs.Common.{◌≡◌, ◌≤◌, take}
use Rattle.std.specs.List.{count_by}
use Rattle.cli.specs.Totals.{is_built}
use Rattle.cli.proofs.totals.built_count.Given as goal

abbrev pub invariant-loop-place : goal.invariant-loop-place
invariant-loop-place l = record {
  is : l.count ≡ count_by is_built (take l.place l.verdicts);
  low : l.count ≤ l.place;
}
