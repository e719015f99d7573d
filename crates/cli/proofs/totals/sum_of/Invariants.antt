use Rattle.std.proofs.Common.{◌≡◌, ◌≤◌, ◌*◌, ◌^◌, take}
use Rattle.std.specs.List.{sum}
use Rattle.cli.proofs.totals.sum_of.Given as goal

abbrev pub invariant-loop-place : goal.invariant-loop-place
invariant-loop-place l = record {
  is : l.bytes ≡ sum (take l.place l.sizes);
  low : l.bytes ≤ l.place * 2 ^ 64;
}
