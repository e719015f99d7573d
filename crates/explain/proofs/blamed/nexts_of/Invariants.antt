use Rattle.std.proofs.Common.{◌≡◌, length}
use Rattle.explain.specs.steps.Roots.{AreRoots}
use Rattle.explain.proofs.blamed.nexts_of.Given as goal

abbrev pub invariant-loop-class : goal.invariant-loop-class
invariant-loop-class l = record {
  are : AreRoots l.verdicts l.nexts.items;
  count : length l.nexts.items ≡ l.class;
}
