use Rattle.std.proofs.Common.{◌<◌, ◌≤◌, length, arith}
use Rattle.initializer_analysis.proofs.RowsBelowLemmas.{class_edge, class_beyond, vertex_low}
use Rattle.initializer_analysis.proofs.dependence.add_class.Goals as goal

pub returns-in_ok-add_edge : goal.returns-in_ok-add_edge
returns-in_ok-add_edge c =
    let low : c.args.class < length c.args.program.now.classes = omega arith in
    class_edge c.args.program.now c.args.uses.now c.args.graph.now c.add_edge.new.graph c.args.from c.args.class
    c.class_vertex.result low c.class_vertex.ensures c.in_ok-add_edge.ensures

pub add_edge-requires-clause-from : goal.add_edge-requires-clause-from
add_edge-requires-clause-from c = c.requires.from

pub add_edge-requires-clause-to : goal.add_edge-requires-clause-to
add_edge-requires-clause-to c =
    vertex_low c.args.program.now c.args.uses.now c.args.graph.now c.args.class c.class_vertex.result
    c.requires.vertices.vertices (omega arith) c.class_vertex.ensures

pub class_vertex-requires : goal.class_vertex-requires
class_vertex-requires c = c.requires.vertices.few

pub returns-else-class-given_count : goal.returns-else-class-given_count
returns-else-class-given_count c =
    let high : length c.args.program.now.classes ≤ c.args.class = omega arith in
    class_beyond c.args.program.now c.args.uses.now c.args.graph.now c.args.from c.args.class high
