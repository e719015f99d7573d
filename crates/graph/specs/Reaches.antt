-- What a vertex reaches, and cycles.
use Rattle.std.specs.Prelude.{ℕ, ◌<◌, List}
use Rattle.std.specs.List.{Contains}
use Rattle.graph.specs.Rows.{Rows, successors_of}

-- along no edge or more
pub data Reaches (graph : Rows) (from : ℕ) : ℕ → Type 0 where
  itself : Reaches graph from from
  along : {a b : ℕ} → Reaches graph from a → Contains (successors_of graph a) b → Reaches graph from b

-- one of these vertices reaches it
abbrev pub IsReached : Rows → List ℕ → ℕ → Type 0
IsReached graph from vertex = (a : ℕ) × Contains from a × Reaches graph a vertex

-- it reaches itself along one edge or more
abbrev pub OnCycle : Rows → ℕ → Type 0
OnCycle graph vertex = IsReached graph (successors_of graph vertex) vertex

-- it is on a cycle, and no smaller vertex is
pub record IsLeastOnCycle (graph : Rows) (vertex : ℕ) : Type 0 where
  pub on_cycle : OnCycle graph vertex
  pub least : (u : ℕ) → u < vertex → ¬ OnCycle graph u

abbrev pub IsAcyclic : Rows → Type 0
IsAcyclic graph = (v : ℕ) → ¬ OnCycle graph v
