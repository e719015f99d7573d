-- Directed graphs of numbered vertices, as rows of successors.
use Rattle.std.specs.Prelude.{ℕ, ◌<◌, List, [], length, map, slice_index_or}
use Rattle.std.specs.List.{All}
use Rattle.std.specs.declared.vec.Vec.{Vec}
use Rattle.std.specs.declared.alloc.Global.{Global}

-- at each place the successors of the vertex of that number
abbrev pub Rows : Type 0
Rows = List (List ℕ)

abbrev pub rows_of : List (Vec ℕ Global) → Rows
rows_of rows = map (λ row. row.items) rows

-- where a vertex has edges to
abbrev pub successors_of : Rows → ℕ → List ℕ
successors_of graph vertex = slice_index_or graph vertex []

-- each successor is a vertex
abbrev pub IsClosed : Rows → Type 0
IsClosed graph = All (λ row. All (λ v. v < length graph) row) graph
