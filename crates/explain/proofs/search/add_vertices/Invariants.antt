use Rattle.std.proofs.Common.{◌≡◌, ℕ, Some, slice_get, take}
use Rattle.graph.specs.Rows.{Rows, successors_of}
use Rattle.graph.specs.steps.Adds.{Adds}
use Rattle.explain.specs.steps.Trees.{IsTree}
use Rattle.explain.proofs.search.add_vertices.Given as goal

abbrev pub invariant-loop-vertex : goal.invariant-loop-vertex
invariant-loop-vertex l = record {
  limit : l.seen.limit ≡ l.initial.seen.limit;
  adds : Adds l.initial.seen.items (take l.vertex-index l.vertices) l.seen.items;
  tree : (graph : Rows) (u : ℕ) → slice_get l.initial.seen.items l.place ≡ Some u → successors_of graph u ≡ l.vertices
      → IsTree graph l.initial.seen.items l.initial.finders.items
      → IsTree graph l.seen.items l.finders.items × (slice_get l.seen.items l.place ≡ Some u);
}
