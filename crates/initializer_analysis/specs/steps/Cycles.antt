-- The classes of each component of what classes and methods depend on.
use Rattle.std.specs.Prelude.{◌≡◌, ◌≢◌, ◌↔◌, ◌⊎◌, ℕ, ◌<◌, Bool}
use Rattle.std.specs.Prelude.{false, IsTrue, List, length, slice_index, slice_index_or}
use Rattle.use_graph.specs.declared.whole_program.UseGraph.{UseGraph}
use Rattle.initializer_analysis.specs.declared.labels.Least.{Least}
use Rattle.initializer_analysis.specs.Least.{AreLeast}
use Rattle.initializer_analysis.specs.steps.LeastReached.{no_labels, IsOwn}
use Rattle.initializer_analysis.specs.steps.Dependence.{vertex_of}

-- a class below a limit whose vertex has this number
abbrev pub IsMember : UseGraph → List ℕ → ℕ → ℕ → ℕ → Type 0
IsMember uses numbers limit number c = (c < limit) × (slice_index numbers (vertex_of uses c) ≡ number)

-- a table by numbers has the two least of them
abbrev pub HaveMembers : UseGraph → List ℕ → ℕ → List Least → Type 0
HaveMembers uses numbers limit table = (number : ℕ) → number < length table
    → AreLeast (IsMember uses numbers limit number) (slice_index_or table number no_labels)

-- a class joins those of a number
pub record AddsMember (number c : ℕ) (old new : List Least) : Type 0 where
  pub len : length new ≡ length old
  pub here : AreLeast (λ l. IsOwn old number l ⊎ (l ≡ c)) (slice_index_or new number no_labels)
  pub others : (n : ℕ) → n ≢ number → slice_index_or new n no_labels ≡ slice_index_or old n no_labels

-- another class has the number of this one
abbrev pub HasOther : UseGraph → List ℕ → ℕ → ℕ → Type 0
HasOther uses numbers limit c =
    (d : ℕ) × IsMember uses numbers limit (slice_index numbers (vertex_of uses c)) d × (d ≢ c)

pub record AreOthers (uses : UseGraph) (numbers : List ℕ) (limit : ℕ) (on_cycle : List Bool) : Type 0 where
  pub count : length on_cycle ≡ limit
  pub each : (c : ℕ) → c < limit → IsTrue (slice_index_or on_cycle c false) ↔ HasOther uses numbers limit c
