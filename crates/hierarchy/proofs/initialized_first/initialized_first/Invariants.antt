use Rattle.std.proofs.Common.{◌≡◌, ℕ, ◌<◌, length, get_or, false}
use Rattle.hierarchy.specs.Initialization.{is_initialized_first}
use Rattle.hierarchy.proofs.initialized_first.initialized_first.Given as goal

abbrev pub invariant-loop-class : goal.invariant-loop-class
invariant-loop-class l = record {
  count : length l.flags.items ≡ l.class;
  tell : (i : ℕ) → i < length l.flags.items → get_or l.flags.items i false ≡ is_initialized_first l.family i;
}
