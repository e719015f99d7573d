use Rattle.std.proofs.Common.{◌≤◌, ◌∙◌, length, arith}
use Rattle.initializer_analysis.proofs.AddsFromLemmas.{all_within}
use Rattle.initializer_analysis.proofs.RowsBelowLemmas.{depends_at}
use Rattle.initializer_analysis.proofs.dependence.add_vertex.Goals as goal

pub add_row-requires-clause-row : goal.add_row-requires-clause-row
add_row-requires-clause-row c =
    let more : length c.args.uses.now.calls ≤ length c.args.graph.now = omega (arith, c.requires.vertices.vertices) in
    all_within c.successors.result.now (length c.args.uses.now.calls) (length c.args.graph.now) more
    c.successors.ensures.within

pub add_row-requires-clause-from : goal.add_row-requires-clause-from
add_row-requires-clause-from c = omega (arith, c.requires.vertex, c.requires.vertices.vertices)

pub add_needed-requires-clause-vertices : goal.add_needed-requires-clause-vertices
add_needed-requires-clause-vertices c = record {
  few = c.requires.vertices.few;
  vertices = c.in_ok-add_row.ensures.len ∙ c.requires.vertices.vertices;
}

pub add_needed-requires-clause-vertex : goal.add_needed-requires-clause-vertex
add_needed-requires-clause-vertex c =
    omega (arith, c.requires.vertex, c.in_ok-add_row.ensures.len, c.requires.vertices.vertices)

pub returns : goal.returns
returns c =
    depends_at c.args.program.now c.args.uses.now c.args.vertex c.args.graph.now c.add_row.new.graph
    c.add_needed.new.graph c.successors.result.now c.successors.ensures.value c.in_ok-add_row.ensures
    c.in_ok-add_needed.ensures
