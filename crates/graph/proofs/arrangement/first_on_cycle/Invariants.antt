use Rattle.std.proofs.Common.{◌≡◌, ℕ, ◌<◌, ◌↔◌, length, take, slice_index}
use Rattle.std.specs.List.{Contains}
use Rattle.graph.specs.Rows.{successors_of}
use Rattle.graph.proofs.arrangement.first_on_cycle.Given as goal

abbrev pub invariant-loop-vertex : goal.invariant-loop-vertex
invariant-loop-vertex l = record {
  limit : l.finished.limit ≡ length l.graph;
  same : (x : ℕ) → Contains l.finished.items x ↔ Contains (take l.vertex-index l.order) x;
  after : (i b : ℕ) → i < l.vertex-index → Contains (successors_of l.graph (slice_index l.order i)) b
      → Contains (take i l.order) b;
}
