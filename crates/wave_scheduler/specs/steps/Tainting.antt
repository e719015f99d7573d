-- Which classes depend on one that is not accepted, by a graph that leads from each class and method to what depends on
-- it.
use Rattle.std.specs.Prelude.{◌≡◌, ◌↔◌, ◌⊎◌, ℕ, ◌+◌, ◌*◌, ◌<◌, ◌≤◌, List, length, Option, MatchOption}
use Rattle.std.specs.List.{Contains}
use Rattle.graph.specs.Rows.{Rows, successors_of}
use Rattle.graph.specs.Reaches.{Reaches}
use Rattle.graph.specs.steps.Reverse.{IsReverse}
use Rattle.program.specs.Tables.{Tables}
use Rattle.machine.specs.Linked.{program_of}
use Rattle.semantics.specs.Quiet.{Environment}
use Rattle.use_graph.specs.declared.whole_program.UseGraph.{UseGraph}
use Rattle.use_graph.specs.steps.Bodies.{IsUseGraph}
use Rattle.initializer_analysis.specs.steps.Dependence.{IsDependence}
use Rattle.wave_scheduler.specs.declared.tainted.Tainted.{Tainted}
use Rattle.wave_scheduler.specs.Settled.{Settled, IsAccepted}
use Rattle.wave_scheduler.specs.steps.Finding.{FindsClass}

-- ---- searches

-- what one of these vertices reaches is among them
abbrev pub IsClosedIn : Rows → List ℕ → Type 0
IsClosedIn graph items = (a b : ℕ) → Contains items a → Contains (successors_of graph a) b → Contains items b

-- a vertex was added, and all that it reaches
abbrev pub AddsReached : Rows → ℕ → List ℕ → List ℕ → Type 0
AddsReached graph from old new = (v : ℕ) → Contains new v ↔ (Contains old v ⊎ Reaches graph from v)

-- ---- what depends on classes

-- edges lead from each class and method to what depends on it
abbrev pub AreDependents : Tables → UseGraph → Rows → Type 0
AreDependents P uses dependents = (graph : Rows) × IsDependence P uses graph × IsReverse graph dependents

-- the vertex of a class
abbrev pub vertex_in : Tainted → ℕ → ℕ
vertex_in t c = t.first + c

abbrev pub IsSeen : Tainted → ℕ → Type 0
IsSeen t v = Contains t.seen.items v

-- what depends on a vertex that is seen is seen as well
pub record IsSearched (t : Tainted) : Type 0 where
  pub few : t.first ≤ 2 * (65535 * 65535)
  pub within : t.seen.limit ≡ length t.dependents
  pub closed : IsClosedIn t.dependents t.seen.items

-- where this holds of a class, what depends on it was added
pub record Spreads (c : ℕ) (Holds : Type 0) (old new : Tainted) : Type 0 where
  pub dependents : new.dependents ≡ old.dependents
  pub first : new.first ≡ old.first
  pub within : new.seen.limit ≡ old.seen.limit
  pub each : (v : ℕ) → IsSeen new v ↔ (IsSeen old v ⊎ (Holds × Reaches old.dependents (vertex_in old c) v))

-- it depends on a class below a limit that is not accepted
abbrev pub DependsOnRefused : Settled → Tainted → ℕ → ℕ → Type 0
DependsOnRefused S t limit v =
    (e : ℕ) × (e < limit) × (¬ IsAccepted S e) × Reaches t.dependents (vertex_in t e) v

-- exactly that is seen
abbrev pub SeesBelow : Settled → Tainted → ℕ → Type 0
SeesBelow S t limit = (v : ℕ) → IsSeen t v ↔ DependsOnRefused S t limit v

-- of this graph and this first vertex
pub record IsOver (dependents : Rows) (first : ℕ) (t : Tainted) : Type 0 where
  pub graph : t.dependents ≡ dependents
  pub start : t.first ≡ first
  pub within : t.seen.limit ≡ length dependents

-- the same, and what is seen depends on a class below a limit that is not accepted
pub record SeesOver (S : Settled) (dependents : Rows) (first count : ℕ) (t : Tainted) : Type 0 where
  pub over : IsOver dependents first t
  pub sees : SeesBelow S t count

-- What is seen of a program is what depends on a class that is not accepted.
pub record AreTainted (P : Tables) (S : Settled) (t : Tainted) : Type 0 where
  pub uses : UseGraph
  pub whole : IsUseGraph P uses
  pub dependents : AreDependents P uses t.dependents
  pub first : t.first ≡ length uses.calls
  pub within : t.seen.limit ≡ length t.dependents
  pub sees : SeesBelow S t (length P.classes)

-- ---- a class that is tried

-- what taints a class: itself, where it depends on one that is not accepted
abbrev pub IsTaint : Tainted → ℕ → Option ℕ → Type 0
IsTaint t c taint = MatchOption taint (¬ IsSeen t (vertex_in t c)) (λ e. IsSeen t (vertex_in t c))

-- A class is tried where it depends on no class that is not accepted. If it is then not accepted itself, what depends
-- on it is seen.
pub record TriesClass (P : Tables) (lent env : Environment) (budget n c : ℕ) (t : Tainted) (old : Settled)
    (more : Tainted) (new : Settled) : Type 0 where
  pub taint : Option ℕ
  pub so : IsTaint t c taint
  pub finds : FindsClass (program_of P) lent env budget n c taint old new
  pub spreads : Spreads c (¬ IsAccepted new c) t more
