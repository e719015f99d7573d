-- A graph of what classes and methods depend on, and edges that are added to it.
use Rattle.std.specs.Prelude.{◌≡◌, ◌≢◌, ◌↔◌, ◌⊎◌, ℕ, ◌+◌, ◌*◌, ◌<◌, ◌≤◌, Option, Some, [], length, slice_get}
use Rattle.std.specs.List.{Contains}
use Rattle.graph.specs.Components.{Parts, AreComponents}
use Rattle.graph.specs.Rows.{Rows, successors_of}
use Rattle.program.specs.Tables.{Tables, order_in}
use Rattle.use_graph.specs.declared.body.BodyUses.{BodyUses}
use Rattle.use_graph.specs.declared.whole_program.UseGraph.{UseGraph}
use Rattle.use_graph.specs.steps.Bodies.{IsUseGraph}
use Rattle.use_graph.specs.steps.Deeds.{HoldsOfOne}
use Rattle.use_graph.specs.steps.Searching.{StartsAt}

-- the vertex of a class, behind those of the graph of calls
abbrev pub vertex_of : UseGraph → ℕ → ℕ
vertex_of uses c = length uses.calls + c

abbrev pub IsVertexOf : Tables → UseGraph → ℕ → ℕ → Type 0
IsVertexOf P uses c b = (c < length P.classes) × (vertex_of uses c ≡ b)

-- so many vertices are those of the graph of calls, and behind them one for each class below a limit
pub record HaveVertices (uses : UseGraph) (limit count : ℕ) : Type 0 where
  pub few : length uses.calls ≤ 2 * (65535 * 65535)
  pub vertices : count ≡ length uses.calls + limit

-- the vertex of a given class that the method of a vertex needs
abbrev pub IsNeededVertex : Tables → UseGraph → ℕ → ℕ → Type 0
IsNeededVertex P uses v b = (body : BodyUses) × (slice_get uses.bodies.items v ≡ Some body)
    × HoldsOfOne (IsVertexOf P uses) body.needs.items b

-- what a vertex of the graph of calls depends on
abbrev pub DependsAt : Tables → UseGraph → ℕ → ℕ → Type 0
DependsAt P uses v b = Contains (successors_of uses.calls v) b ⊎ IsNeededVertex P uses v b

-- what a class depends on whose class initialization method has this vertex: that, and what is initialized before it
abbrev pub ClassDependsOn : Tables → UseGraph → ℕ → Option ℕ → ℕ → Type 0
ClassDependsOn P uses c start b = (start ≡ Some b) ⊎ HoldsOfOne (IsVertexOf P uses) (order_in P c) b

-- edges lead from a class to what it depends on
abbrev pub IsClassRow : Tables → UseGraph → Rows → ℕ → Type 0
IsClassRow P uses graph c = (start : Option ℕ) × StartsAt P uses.methods c start
    × ((b : ℕ) → Contains (successors_of graph (vertex_of uses c)) b ↔ ClassDependsOn P uses c start b)

-- The vertices of the graph of calls, and behind them one for each given class. Edges lead to what each depends on.
pub record IsDependence (P : Tables) (uses : UseGraph) (graph : Rows) : Type 0 where
  pub vertices : length graph ≡ length uses.calls + length P.classes
  pub methods : (v b : ℕ) → v < length uses.calls → Contains (successors_of graph v) b ↔ DependsAt P uses v b
  pub classes : (c : ℕ) → c < length P.classes → IsClassRow P uses graph c

-- What methods call and need, what classes and methods depend on by that, and the components of this.
pub record AreDependences (P : Tables) (use_graph : UseGraph) (rows : Rows) (parts : Parts) : Type 0 where
  pub uses : IsUseGraph P use_graph
  pub graph : IsDependence P use_graph rows
  pub components : AreComponents rows parts

-- ---- while it is made

-- edges from one vertex alone were added, to these
pub record AddsFrom (old new : Rows) (from : ℕ) (IsNew : ℕ → Type 0) : Type 0 where
  pub len : length new ≡ length old
  pub row : (b : ℕ) → Contains (successors_of new from) b ↔ (Contains (successors_of old from) b ⊎ IsNew b)
  pub others : (n : ℕ) → n ≢ from → successors_of new n ≡ successors_of old n

-- edges from a class were added, to what it depends on
abbrev pub AddsClass : Tables → UseGraph → ℕ → Rows → Rows → Type 0
AddsClass P uses c old new = (start : Option ℕ) × StartsAt P uses.methods c start
    × AddsFrom old new (vertex_of uses c) (ClassDependsOn P uses c start)

-- the vertices below a limit have their edges, and the others none
pub record IsDependenceBelow (P : Tables) (uses : UseGraph) (limit : ℕ) (graph : Rows) : Type 0 where
  pub vertices : length graph ≡ length uses.calls + length P.classes
  pub methods : (v b : ℕ) → v < limit → v < length uses.calls
      → Contains (successors_of graph v) b ↔ DependsAt P uses v b
  pub classes : (c : ℕ) → vertex_of uses c < limit → c < length P.classes → IsClassRow P uses graph c
  pub empty : (v : ℕ) → limit ≤ v → successors_of graph v ≡ []
