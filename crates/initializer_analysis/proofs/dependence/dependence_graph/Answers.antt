use Rattle.initializer_analysis.proofs.RowsBelowLemmas.{calls_few, all_vertices}
use Rattle.initializer_analysis.proofs.dependence.dependence_graph.Goals as goal

pub class_vertex-requires : goal.class_vertex-requires
class_vertex-requires c = calls_few c.args.program.now c.args.uses.now c.requires

pub add_all-requires-clause-uses : goal.add_all-requires-clause-uses
add_all-requires-clause-uses c = c.requires

pub add_all-requires-clause-none : goal.add_all-requires-clause-none
add_all-requires-clause-none c =
    all_vertices c.args.program.now c.args.uses.now c.in_ok-graph.graph c.given_count.result c.class_vertex.result
    c.given_count.ensures.value c.class_vertex.ensures c.in_ok-graph.ensures.rows
