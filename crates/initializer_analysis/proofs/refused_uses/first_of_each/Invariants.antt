use Rattle.std.proofs.Common.{◌≡◌, length}
use Rattle.initializer_analysis.proofs.RefusedUsesLemmas.{AreFirstBelow}
use Rattle.initializer_analysis.proofs.refused_uses.first_of_each.Given as goal

abbrev pub invariant-loop-class : goal.invariant-loop-class
invariant-loop-class l = record {
  len : length l.first.items ≡ l.class;
  below : AreFirstBelow l.program l.refused l.class l.first.items;
}
