use Rattle.graph.specs.Order.{IsTopological, ComesAfter}
use Rattle.graph.proofs.OrderLemmas.{topological_acyclic}
use Rattle.graph.proofs.arrangement.arrange.Goals as goal

pub returns-in-None : goal.returns-in-None
returns-in-None c =
    let graph = c.args.graph.now in
    let order = c.in_ok-order.order.items in
    let in_slice : ComesAfter graph c.as_slice.result.now = rw c.in-None.is at c.in_ok-first_on_cycle.ensures in
    let after : ComesAfter graph order = rw c.as_slice.ensures.value at in_slice in
    let topological : IsTopological graph order =
    record { each = c.in_ok-order.ensures.postorder.each; after = after } in
    (topological, topological_acyclic graph order topological)
