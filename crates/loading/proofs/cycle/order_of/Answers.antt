use Rattle.std.proofs.Common.{◌≡◌, List, ℕ, sym, subst, ◌∙◌}
use Rattle.loading.specs.Families.{IsParentsFirst}
use Rattle.loading.proofs.LinkingGraphLemmas.{family_acyclic, parents_first, least_cycle, cycle_vertex}
use Rattle.loading.proofs.LinkingFileLemmas.{family_fits}
use Rattle.loading.proofs.cycle.order_of.Goals as goal

pub graph_of-requires : goal.graph_of-requires
graph_of-requires c = c.requires.linked.within

pub returns-in-Order-clause-fits : goal.returns-in-Order-clause-fits
returns-in-Order-clause-fits c =
    let classes = c.args.classes.now in
    let t = rw c.in-Order.is at c.in_ok-order.ensures in
    family_fits classes c.requires.linked (family_acyclic classes c.in_ok-graph.graph c.in_ok-graph.ensures t.1)

pub returns-in-Order-clause-order : goal.returns-in-Order-clause-order
returns-in-Order-clause-order c =
    let classes = c.args.classes.now in
    let t = rw c.in-Order.is at c.in_ok-order.ensures in
    let first = parents_first classes c.in_ok-graph.graph c.in-Order.order.items c.in_ok-graph.ensures t.0 in
    let same : c.in_ok-numbers_of-in-Order.field-0 ≡ c.in-Order.order.items = c.in_ok-numbers_of-in-Order.ensures
    ∙ c.as_slice.ensures.value in
    subst (λ (z : List ℕ). IsParentsFirst classes z) (sym same) first

pub cycle_fault-requires-clause-number : goal.cycle_fault-requires-clause-number
cycle_fault-requires-clause-number c =
    cycle_vertex c.args.classes.now c.in_ok-graph.graph c.in-Cycle.vertex c.in_ok-graph.ensures
    (rw c.in-Cycle.is at c.in_ok-order.ensures)

pub cycle_fault-requires-clause-least : goal.cycle_fault-requires-clause-least
cycle_fault-requires-clause-least c =
    least_cycle c.args.classes.now c.in_ok-graph.graph c.in-Cycle.vertex c.in_ok-graph.ensures
    (rw c.in-Cycle.is at c.in_ok-order.ensures)
