use Rattle.std.proofs.Common.{◌≡◌, ◌∙◌, Some, ap, slice_get}
use Rattle.use_graph.proofs.EdgesLemmas.{extends_weaker}
use Rattle.use_graph.proofs.call_graph.add_edge_to.Goals as goal

pub returns-in_ok-add_edge-in-Some-clause-extends : goal.returns-in_ok-add_edge-in-Some-clause-extends
returns-in_ok-add_edge-in-Some-clause-extends c =
    let methods = c.args.numbers.now in
    extends_weaker c.args.graph.now c.add_edge.new.graph c.args.from (λ t. t ≡ c.in-Some.to)
    (λ t. slice_get methods t ≡ Some c.args.method) (λ t is. ap (slice_get methods) is ∙ c.in-Some.ensures)
    c.in_ok-add_edge-in-Some.ensures.extends
