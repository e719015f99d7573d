use Rattle.std.proofs.Common.{◌≡◌, ◌≤◌}
use Rattle.inspection.specs.Texts.{built_below}
use Rattle.inspection.proofs.head.built_below.Given as goal

abbrev pub invariant-loop-class : goal.invariant-loop-class
invariant-loop-class l = record {
  is : l.built ≡ built_below l.image l.class;
  low : l.built ≤ l.class;
}
