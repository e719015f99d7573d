use Rattle.std.proofs.Common.{◌∙◌, ℕ, subst}
use Rattle.use_graph.specs.steps.Deeds.{HoldsOfOne}
use Rattle.initializer_analysis.specs.steps.Dependence.{AddsFrom, IsVertexOf}
use Rattle.initializer_analysis.proofs.RowsBelowLemmas.{calls_few, class_added}
use Rattle.initializer_analysis.proofs.dependence.add_uses.Goals as goal

pub add_classes-requires-clause-vertices : goal.add_classes-requires-clause-vertices
add_classes-requires-clause-vertices c = record {
  few = calls_few c.args.program.now c.args.uses.now c.requires.uses;
  vertices = c.in_ok-add_start.ensures.2.len ∙ c.requires.vertices;
}

pub returns : goal.returns
returns c =
    let (start, starts, first) = c.in_ok-add_start.ensures in
    class_added c.args.program.now c.args.uses.now c.args.class c.args.graph.now c.add_start.new.graph
    c.add_classes.new.graph start c.init_order.result.now c.init_order.ensures.value starts first
    (subst (λ (v : ℕ). AddsFrom c.add_start.new.graph c.add_classes.new.graph v
    (HoldsOfOne (IsVertexOf c.args.program.now c.args.uses.now) c.init_order.result.now)) c.class_vertex-vertex.ensures
    c.in_ok-add_classes.ensures)
