use Rattle.std.proofs.Common.{◌≡◌, ℕ, ◌<◌, length}
use Rattle.hierarchy.specs.steps.DeclarationBits.{own_of}
use Rattle.hierarchy.proofs.windows.clear.Given as goal

abbrev pub invariant-loop-class : goal.invariant-loop-class
invariant-loop-class l = record {
  len : length l.own ≡ length l.initial.own;
  empty : (c : ℕ) → c < l.class → own_of l.own c ≡ record { here = 0; same = 0 };
}
