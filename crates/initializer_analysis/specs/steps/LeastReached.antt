-- The least labels of what vertices reach.
use Rattle.std.specs.Prelude.{ℕ, ◌<◌, List, None, length, slice_index_or}
use Rattle.graph.specs.Rows.{Rows}
use Rattle.graph.specs.Reaches.{Reaches}
use Rattle.initializer_analysis.specs.declared.labels.Least.{Least}
use Rattle.initializer_analysis.specs.Least.{AreLeast, IsOf}

abbrev pub no_labels : Least
no_labels = record { first = None; second = None }

-- it is one of a vertex's own labels
abbrev pub IsOwn : List Least → ℕ → ℕ → Type 0
IsOwn own vertex label = IsOf (slice_index_or own vertex no_labels) label

-- it is an own label of a vertex that this one reaches
abbrev pub IsReachedLabel : Rows → List Least → ℕ → ℕ → Type 0
IsReachedLabel graph own vertex label = (u : ℕ) × Reaches graph vertex u × IsOwn own u label

-- for each vertex the two least labels that it reaches
abbrev pub AreLeastReached : Rows → List Least → List Least → Type 0
AreLeastReached graph own least =
    (v : ℕ) → v < length graph → AreLeast (IsReachedLabel graph own v) (slice_index_or least v no_labels)
