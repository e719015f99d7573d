use Rattle.std.proofs.Common.{arith}
use Rattle.initializer_analysis.proofs.VertexTablesLemmas.{read_more, read_all}
use Rattle.initializer_analysis.proofs.vertex_tables.by_vertex.Goals as goal

pub loop-vertex-preserved : goal.loop-vertex-preserved
loop-vertex-preserved g c =
    read_more c.args.table.now c.args.components.now.numbers c.requires c.loop-vertex.row.items c.push.new.self.items
    c.loop-vertex.vertex c.number.result c.index-table-number.result (omega arith) c.number.ensures
    c.index-table-number.is c.loop-vertex.invariant c.in_ok-push.ensures.items

pub returns : goal.returns
returns g c =
    read_all c.args.table.now c.loop-vertex.row.items c.args.components.now.numbers c.loop-vertex.vertex (omega arith)
    c.loop-vertex.invariant
