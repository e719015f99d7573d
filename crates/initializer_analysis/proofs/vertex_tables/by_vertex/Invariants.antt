use Rattle.std.proofs.Common.{◌≡◌, take}
use Rattle.initializer_analysis.proofs.VertexTablesLemmas.{read_at}
use Rattle.initializer_analysis.proofs.vertex_tables.by_vertex.Given as goal

abbrev pub invariant-loop-vertex : goal.invariant-loop-vertex
invariant-loop-vertex g l =
    (d : g.row.T.Denot) → l.row.items ≡ read_at l.table d (take l.vertex l.components.numbers)
