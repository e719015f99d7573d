use Rattle.std.proofs.Common.{◌≡◌, ℕ, Some, None, subst}
use Rattle.initializer_analysis.specs.steps.Dependence.{AddsFrom, vertex_of}
use Rattle.initializer_analysis.proofs.RowsBelowLemmas.{no_start, start_added}
use Rattle.initializer_analysis.proofs.dependence.add_start.Goals as goal

pub returns-in_ok-add_edge-in-Some : goal.returns-in_ok-add_edge-in-Some
returns-in_ok-add_edge-in-Some c = (
  Some c.in-Some.start,
  c.in-Some.ensures,
  subst (λ (v : ℕ). AddsFrom c.args.graph.now c.add_edge.new.graph v (λ b. Some c.in-Some.start ≡ Some b))
      c.class_vertex.ensures
      (start_added c.args.graph.now c.add_edge.new.graph c.class_vertex.result c.in-Some.start
      c.in_ok-add_edge-in-Some.ensures),
)

pub returns-in-None : goal.returns-in-None
returns-in-None c =
    (None, c.in-None.ensures, no_start c.args.graph.now (vertex_of c.args.uses.now c.args.class))
