use Rattle.std.proofs.Common.{◌≡◌, ◌<◌, length, arith}
use Rattle.initializer_analysis.proofs.RowsBelowLemmas.{below_vertex, below_same}
use Rattle.initializer_analysis.proofs.dependence.add_vertices.Goals as goal

pub add_vertex-requires-clause-vertices : goal.add_vertex-requires-clause-vertices
add_vertex-requires-clause-vertices c =
    record { few = c.requires.few; vertices = c.loop-vertex.invariant.vertices }

pub loop-vertex-preserved : goal.loop-vertex-preserved
loop-vertex-preserved c =
    let low : c.loop-vertex.vertex < length c.args.uses.now.calls = omega arith in
    below_vertex c.args.program.now c.args.uses.now c.loop-vertex.graph c.add_vertex.new.graph c.loop-vertex.vertex low
    c.loop-vertex.invariant c.in_ok-add_vertex.ensures

pub returns : goal.returns
returns c =
    let end : c.loop-vertex.vertex ≡ length c.args.uses.now.calls =
    omega (arith, c.loop-vertex-test.false, c.loop-vertex.auto.vertex-end, c.len-vertex-end.ensures) in
    below_same c.args.program.now c.args.uses.now c.loop-vertex.vertex (length c.args.uses.now.calls)
    c.loop-vertex.graph end c.loop-vertex.invariant
