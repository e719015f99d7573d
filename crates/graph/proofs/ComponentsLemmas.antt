-- What components tell of cycles.
use Rattle.std.proofs.Common.{◌≡◌, ℕ, ◌<◌, length, slice_index}
use Rattle.std.specs.List.{All, Contains}
use Rattle.std.proofs.lemmas.List.Elements.{All-contains}
use Rattle.std.specs.Prelude.{◌↔◌}
use Rattle.graph.specs.Rows.{Rows, successors_of}
use Rattle.graph.specs.Reaches.{itself, along, OnCycle}
use Rattle.graph.specs.Components.{Parts, AreComponents}

-- a vertex is on a cycle where it has an edge into its own component
pub cycle_by_components : (graph : Rows) (parts : Parts) (v : ℕ) → AreComponents graph parts → v < length graph
    → All (λ b. b < length graph) (successors_of graph v)
    → ((b : ℕ) × Contains (successors_of graph v) b
    × (slice_index parts.numbers b ≡ slice_index parts.numbers v)) ↔ OnCycle graph v
cycle_by_components graph parts v c small within = (
  λ (b, edge, same). (b, edge, ((c.shared b v (below b edge) small).0 same).0),
  λ (b, edge, back). (b, edge, (c.shared b v (below b edge) small).1 (back, along itself edge)),
)
  where
    below : (b : ℕ) → Contains (successors_of graph v) b → b < length graph
    below b edge = All-contains (λ b. b < length graph) (successors_of graph v) b within edge
