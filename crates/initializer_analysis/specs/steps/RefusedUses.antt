-- Refused classes as labels of vertices of the calls: those that the methods need.
use Rattle.std.specs.Prelude.{◌≡◌, ℕ, ◌<◌, Bool, false, IsTrue, List, Some, length, slice_get, slice_index_or}
use Rattle.graph.specs.Reaches.{Reaches}
use Rattle.use_graph.specs.declared.body.BodyUses.{BodyUses}
use Rattle.use_graph.specs.declared.whole_program.UseGraph.{UseGraph}
use Rattle.use_graph.specs.steps.Deeds.{HoldsOfOne}
use Rattle.initializer_analysis.specs.declared.labels.Least.{Least}
use Rattle.initializer_analysis.specs.Least.{AreLeast}
use Rattle.initializer_analysis.specs.steps.LeastReached.{no_labels}

-- this class, if it is below a limit and refused
abbrev pub IsRefusedOf : List Bool → ℕ → ℕ → ℕ → Type 0
IsRefusedOf refused limit class e = (e ≡ class) × (e < limit) × IsTrue (slice_index_or refused e false)

-- a refused class that the method of a vertex needs
abbrev pub NeedsRefused : List BodyUses → List Bool → ℕ → ℕ → ℕ → Type 0
NeedsRefused bodies refused limit v e =
    (b : BodyUses) × (slice_get bodies v ≡ Some b) × HoldsOfOne (IsRefusedOf refused limit) b.needs.items e

-- one that a method needs which a vertex of the calls reaches
abbrev pub ReachesRefused : UseGraph → List Bool → ℕ → ℕ → ℕ → Type 0
ReachesRefused uses refused limit v e =
    (u : ℕ) × Reaches uses.calls v u × NeedsRefused uses.bodies.items refused limit u e

-- a table has the two least of these for each vertex of the calls
pub record AreRefusedNeeds (uses : UseGraph) (refused : List Bool) (limit : ℕ) (table : List Least) : Type 0 where
  pub len : length table ≡ length uses.calls
  pub least : (v : ℕ) → v < length uses.calls
      → AreLeast (ReachesRefused uses refused limit v) (slice_index_or table v no_labels)
