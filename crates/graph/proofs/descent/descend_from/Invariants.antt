use Rattle.std.proofs.Common.{◌≡◌, ℕ, ◌+◌, ◌-◌, ◌*◌, length, vec_len}
use Rattle.std.specs.List.{Contains}
use Rattle.graph.specs.steps.Descending.{Descending}
use Rattle.graph.proofs.descent.descend_from.Given as goal

abbrev pub invariant-loop-descent : goal.invariant-loop-descent
invariant-loop-descent l = record {
  limit : l.descent.seen.limit ≡ length l.graph;
  passed : length l.descent.passed.items ≡ length l.graph;
  descending : Descending l.graph l.descent.seen.items l.descent.path.items l.descent.passed.items
      l.descent.finished.items;
  has : Contains l.descent.seen.items l.root;
  keeps : (x : ℕ) → Contains l.fn.descent.seen.items x → Contains l.descent.seen.items x;
}

abbrev pub decreases-loop-descent : goal.decreases-loop-descent
decreases-loop-descent l = 2 * (length l.graph - length l.descent.seen.items) + vec_len l.descent.path
