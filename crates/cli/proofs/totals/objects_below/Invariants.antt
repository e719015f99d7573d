use Rattle.std.proofs.Common.{◌≡◌, ◌≤◌, ◌*◌, ◌^◌}
use Rattle.inspection.specs.Texts.{objects_below}
use Rattle.cli.proofs.totals.objects_below.Given as goal

abbrev pub invariant-loop-class : goal.invariant-loop-class
invariant-loop-class l = record {
  is : l.objects ≡ objects_below l.image l.class;
  low : l.objects ≤ l.class * 2 ^ 32;
}
