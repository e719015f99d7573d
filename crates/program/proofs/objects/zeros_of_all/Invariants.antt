use Rattle.std.proofs.Common.{◌≡◌, length}
use Rattle.program.specs.steps.Slots.{AreZeros}
use Rattle.program.proofs.objects.zeros_of_all.Given as goal

abbrev pub invariant-loop-class : goal.invariant-loop-class
invariant-loop-class l = record {
  count : length l.zeros.items ≡ l.class;
  zeros : AreZeros l.family l.zeros.items;
}
