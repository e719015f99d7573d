use Rattle.std.proofs.Common.{◌≡◌, ℕ, ◌<◌, length, []}
use Rattle.std.specs.List.{Contains}
use Rattle.graph.specs.steps.Descending.{Descending}
use Rattle.graph.proofs.descent.descend_from_all.Given as goal

abbrev pub invariant-loop-root : goal.invariant-loop-root
invariant-loop-root l = record {
  limit : l.descent.seen.limit ≡ length l.graph;
  passed : length l.descent.passed.items ≡ length l.graph;
  empty : l.descent.path.items ≡ [];
  descending : Descending l.graph l.descent.seen.items [] l.descent.passed.items l.descent.finished.items;
  seen : (v : ℕ) → v < l.root → Contains l.descent.seen.items v;
}
